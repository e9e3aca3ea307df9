-- What a farm is once a contest has entered it and all of it was asked for: each judging can be run.
use Rattle.std.proofs.Common.{ℕ, zero, suc, ◌≡◌, ◌+◌, ◌-◌, ◌≤◌, ◌⊎◌, List, [], ◌∷◌, ◌++◌, Option, Some, None, true, refl, sym, ap, ◌∙◌, subst, arith, inl, inr, length, map, slice_get}
use Rattle.std.specs.Prelude.{IsSome}
use Rattle.std.specs.Option.{option_map}
use Rattle.std.proofs.lemmas.List.{length-replicate}
use Rattle.farm_kinds.specs.declared.outcomes.NamedMode.{NamedMode}
use Rattle.farm_kinds.specs.declared.outcomes.Task.{Task}
use Rattle.farm_kinds.specs.declared.events.Event.{Event}
use Rattle.farm_model.specs.declared.records.Problem.{Problem}
use Rattle.farm_model.specs.Limits.{max_problems, max_submissions}
use Rattle.farm_model.specs.Numbered.{item_of}
use Rattle.farm_model.specs.Changes.{asked_named}
use Rattle.farm_model.specs.Judgings.{Judging, task_of}
use Rattle.farm_model.specs.Judge.{JudgeState, add_judgings, first_state}
use Rattle.farm_model.specs.State.{State, SettingsValue, start}
use Rattle.farm_model.specs.Replay.{state_after}
use Rattle.farm_laws.specs.Laws.{reached}
use Rattle.farm_laws.proofs.Items.{item_seen, item_at}
use Rattle.farm_laws.proofs.Each.{Each}
use Rattle.farm_laws.proofs.Outputs.{state_after-append}
use Rattle.case_run.specs.Cases.{TestCase}
use Rattle.parallel_judge.specs.Entering.{NamedProblem, NamedSubmission, problem_event, submission_event, ask_event, waiting, contest_events}
use Rattle.parallel_judge.specs.Working.{AreRunnable, row_lengths}
use Rattle.parallel_judge.proofs.Asking.{IsAskable, AreAskable, IsAmong, WaitOnly, IsAsked, all_asked, waits}
use Rattle.parallel_judge.proofs.Contests.{HasProblems, HasSubmissions, HasTests, Apart, IsNew, IsKnown, first_version, cells_of_named, judging_named, problems_enter, submissions_enter}

-- a contest that enters a farm, with its cases and how many cells each judging has
pub record IsContestOf (settings : SettingsValue) (case_at : Task → Option TestCase) (cells : List ℕ) (ps : List NamedProblem) (xs : List NamedSubmission) : Type 0 where
  pub tests : Each HasTests ps
  pub apart : Apart ps
  pub few_problems : length ps ≤ max_problems
  pub known : Each (IsKnown (map (first_version (start settings)) ps)) xs
  pub few : length xs ≤ max_submissions
  pub lengths : map (cells_of_named (map (first_version (start settings)) ps)) xs ≡ cells
  -- a judging waits to be asked for where its problem is on demand
  pub asked : Each (λ (x : NamedSubmission). (judging_named (map (first_version (start settings)) ps) x).asked ≡ asked_named settings.modes x.problem) xs
  pub cases : (j n : ℕ) → item_of cells j ≡ Some n → (test : ℕ) → 1 ≤ test → test ≤ n → IsSome (case_at (task_of j test))

all_new : (ps : List NamedProblem) → Each (IsNew []) ps
all_new [] = tt
all_new (p ∷ ps) = (tt, all_new ps)

-- the events by which problems and submissions enter, and the farm that has them
abbrev both_events : List NamedProblem → List NamedSubmission → List Event
both_events ps xs = map problem_event ps ++ map submission_event xs

abbrev with_both : SettingsValue → List NamedProblem → List NamedSubmission → State
with_both settings ps xs = reached settings (both_events ps xs)

-- the judgings of the submissions
abbrev new_judgings : SettingsValue → List NamedProblem → List NamedSubmission → List Judging
new_judgings settings ps xs = map (judging_named (map (first_version (start settings)) ps)) xs

both_enter : (settings : SettingsValue) (case_at : Task → Option TestCase) (cells : List ℕ) (ps : List NamedProblem) (xs : List NamedSubmission) → IsContestOf settings case_at cells ps xs
    → ((with_both settings ps xs).judge ≡ add_judgings (first_state settings.rule settings.lease) (new_judgings settings ps xs)) × ((with_both settings ps xs).hosts ≡ [])
both_enter settings case_at cells ps xs c =
    let s1 = state_after (start settings) (map problem_event ps) in
    let first : HasProblems (start settings) s1 (map (first_version (start settings)) ps) = problems_enter (start settings) ps c.tests (all_new ps) c.apart (let few = c.few_problems in omega (arith, few)) in
    let known : Each (IsKnown s1.problems) xs = subst (λ (problems : List Problem). Each (IsKnown problems) xs) (sym first.problems) c.known in
    let submissions : length s1.submissions ≡ 0 = ap (λ ys. length ys) first.submissions in
    let judgings : length s1.judge.judgings ≡ 0 = ap (λ (j : JudgeState). length j.judgings) first.judge in
    let few = c.few in
    let second : HasSubmissions s1 (state_after s1 (map submission_event xs)) (map (judging_named s1.problems) xs) =
    submissions_enter s1 xs known (record { submissions = omega (arith, few, submissions); judgings = omega (arith, few, judgings) }) in
    let whole : with_both settings ps xs ≡ state_after s1 (map submission_event xs) = state_after-append (start settings) (map problem_event ps) (map submission_event xs) in
    let same : map (judging_named s1.problems) xs ≡ new_judgings settings ps xs = ap (λ (problems : List Problem). map (judging_named problems) xs) first.problems in (
      ap (λ (t : State). t.judge) whole ∙ second.judge ∙ ap (λ (j : JudgeState). add_judgings j (map (judging_named s1.problems) xs)) first.judge
          ∙ ap (add_judgings (first_state settings.rule settings.lease)) same,
      ap (λ (t : State). t.hosts) whole ∙ second.hosts ∙ first.hosts,
    )

-- ---- the judgings

-- the lengths of the rows, and each of them can be run once it is asked for
named_lengths : (problems : List Problem) (xs : List NamedSubmission) → map (λ judging. length judging.row) (map (judging_named problems) xs) ≡ map (cells_of_named problems) xs
named_lengths problems [] = refl
named_lengths problems (x ∷ xs) =
    ap (λ m. m ∷ map (λ judging. length judging.row) (map (judging_named problems) xs)) (length-replicate (cells_of_named problems x) None)
    ∙ ap (λ ns. cells_of_named problems x ∷ ns) (named_lengths problems xs)

named_askable : (case_at : Task → Option TestCase) (problems : List Problem) (xs : List NamedSubmission)
    → ((j n : ℕ) → item_of (map (cells_of_named problems) xs) j ≡ Some n → (test : ℕ) → 1 ≤ test → test ≤ n → IsSome (case_at (task_of j test)))
    → AreAskable case_at (map (judging_named problems) xs)
named_askable case_at problems xs cases j g there =
    let seen : option_map (judging_named problems) (item_of xs j) ≡ Some g = sym (item_seen (judging_named problems) xs j) ∙ there in
    elim (item_of xs j) as (λ (o : Option NamedSubmission). item_of xs j ≡ o → option_map (judging_named problems) o ≡ Some g → IsAskable case_at j g) [
      | None ↦ λ e found. cc
      | Some x ↦ λ e found.
          let same : judging_named problems x ≡ g = cc in
          let n = cells_of_named problems x in
          let row : length (judging_named problems x).row ≡ n = length-replicate n None in
          let count : item_of (map (cells_of_named problems) xs) j ≡ Some n = item_seen (cells_of_named problems) xs j ∙ ap (option_map (cells_of_named problems)) e in
          subst (IsAskable case_at j) same (record {
            undropped = refl;
            handed = length-replicate n _ ∙ sym row;
            cases = λ test low high. cases j n count test low (omega (arith, high, row));
          })
    ] refl seen

-- what each item meets
item_meets : {X : Type 0} (P : X → Type 0) (xs : List X) (i : ℕ) (x : X) → Each P xs → slice_get xs i ≡ Some x → P x
item_meets P [] i x h e = cc
item_meets P (y ∷ xs) zero x h e = let same : y ≡ x = cc in subst P same h.0
item_meets P (y ∷ xs) (suc i) x h e = item_meets P xs i x h.1 e

named_wait : (modes : List NamedMode) (problems : List Problem) (xs : List NamedSubmission)
    → Each (λ (x : NamedSubmission). (judging_named problems x).asked ≡ asked_named modes x.problem) xs → WaitOnly (map (judging_named problems) xs) (waiting modes 1 xs)
named_wait modes problems xs asked m g there =
    let seen : option_map (judging_named problems) (item_of xs m) ≡ Some g = sym (item_seen (judging_named problems) xs m) ∙ there in
    elim (item_of xs m) as (λ (o : Option NamedSubmission). item_of xs m ≡ o → option_map (judging_named problems) o ≡ Some g → (g.asked ≡ true) ⊎ IsAmong m (waiting modes 1 xs)) [
      | None ↦ λ e found. cc
      | Some x ↦ λ e found.
          let same : judging_named problems x ≡ g = cc in
          let at = item_at xs m x e in
          let positive = at.0 in
          let number : 1 + (m - 1) ≡ m = omega (arith, positive) in
          let flag : g.asked ≡ asked_named modes x.problem =
          ap (λ (judging : Judging). judging.asked) (sym same) ∙ item_meets (λ (y : NamedSubmission). (judging_named problems y).asked ≡ asked_named modes y.problem) xs (m - 1) x asked at.1 in
          elim (waits modes 1 xs (m - 1) x at.1) [
            | inl is_asked ↦ inl (flag ∙ is_asked)
            | inr among ↦ inr (subst (λ k. IsAmong k (waiting modes 1 xs)) number among)
          ]
    ] refl seen

-- ---- the contest

-- the contest has entered: each judging can be run, and there are no hosts and no leases
pub record HasContest (case_at : Task → Option TestCase) (cells : List ℕ) (s : State) : Type 0 where
  pub hosts : s.hosts ≡ []
  pub leases : s.judge.leases ≡ []
  pub runnable : AreRunnable case_at s.judge.judgings
  pub lengths : row_lengths s ≡ cells

pub contest_enters : (settings : SettingsValue) (case_at : Task → Option TestCase) (cells : List ℕ) (ps : List NamedProblem) (xs : List NamedSubmission) → IsContestOf settings case_at cells ps xs
    → HasContest case_at cells (reached settings (contest_events settings.modes ps xs))
contest_enters settings case_at cells ps xs c =
    let problems = map (first_version (start settings)) ps in
    let ns = waiting settings.modes 1 xs in
    let s = with_both settings ps xs in
    let both = both_enter settings case_at cells ps xs c in
    let judgings : s.judge.judgings ≡ map (judging_named problems) xs = ap (λ (j : JudgeState). j.judgings) both.0 in
    let cases : (j n : ℕ) → item_of (map (cells_of_named problems) xs) j ≡ Some n → (test : ℕ) → 1 ≤ test → test ≤ n → IsSome (case_at (task_of j test)) =
    λ j n there test low high. c.cases j n (ap (λ ms. item_of ms j) (sym c.lengths) ∙ there) test low high in
    let askable : AreAskable case_at s.judge.judgings = subst (AreAskable case_at) (sym judgings) (named_askable case_at problems xs cases) in
    let wait : WaitOnly s.judge.judgings ns = subst (λ (js : List Judging). WaitOnly js ns) (sym judgings) (named_wait settings.modes problems xs c.asked) in
    let asked : IsAsked case_at s (state_after s (map ask_event ns)) = all_asked case_at s ns askable wait in
    let whole : reached settings (contest_events settings.modes ps xs) ≡ state_after s (map ask_event ns) = state_after-append (start settings) (both_events ps xs) (map ask_event ns) in
    subst (HasContest case_at cells) (sym whole) (record {
      hosts = asked.hosts ∙ both.1;
      leases = asked.leases ∙ ap (λ (j : JudgeState). j.leases) both.0;
      runnable = asked.runnable;
      lengths = asked.lengths ∙ ap (map (λ (judging : Judging). length judging.row)) judgings ∙ named_lengths problems xs ∙ c.lengths;
    })
