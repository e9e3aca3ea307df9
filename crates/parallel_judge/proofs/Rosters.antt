-- A roster is a contest that can enter a farm.
use Rattle.std.proofs.Common.{ℕ, zero, suc, ◌≡◌, ◌+◌, ◌-◌, ◌<◌, ◌≤◌, List, [], ◌∷◌, Option, Some, None, Bool, true, false, cond, refl, sym, ap, ◌∙◌, subst, arith, ◌++◌, length, map, take, slice_get, nat_le, nat_lt}
use Rattle.std.specs.Prelude.{not, ◌&&◌, IsSome, is_some, All, option_and_then}
use Rattle.std.specs.Option.{option_map}
use Rattle.std.specs.List.{find, AllByRecursion, enumerate_from}
use Rattle.std.specs.List.Sorted.{IsStrictlySortedBy}
use Rattle.std.specs.Str.{bytes_eq}
use Rattle.std.specs.Ordering.{is_eq}
use Rattle.std.specs.declared.cmp.Ordering.TheVariants.{Less}
use Rattle.std.proofs.lemmas.List.{length-map, map-append, append-nil}
use Rattle.std.proofs.lemmas.List.Elements.{All-head, All-tail}
use Rattle.std.proofs.lemmas.List.{take_all}
use Rattle.std.proofs.lemmas.List.FromFn.{length-enumerate_from}
use Rattle.std.proofs.lemmas.Option.{slice_get-get_or, slice_get-map}
use Rattle.std.proofs.lemmas.Bool.Decides.{nat_tests}
use Rattle.std.proofs.lemmas.Map.Text.{is_eq-slice_cmp}
use Rattle.std.proofs.lemmas.Slice.Eq.{bytes_eq-Decides}
use Rattle.farm_kinds.specs.Names.{jury}
use Rattle.farm_kinds.specs.declared.outcomes.Answer.TheVariants.{Final}
use Rattle.farm_kinds.specs.declared.outcomes.Class.TheVariants.{Normal}
use Rattle.farm_kinds.specs.declared.outcomes.NamedMode.{NamedMode}
use Rattle.farm_kinds.specs.declared.outcomes.TableRow.{TableRow}
use Rattle.farm_kinds.specs.declared.outcomes.Verdict.{Verdict}
use Rattle.farm_kinds.specs.declared.events.Event.TheVariants as event
use Rattle.farm_kinds.specs.declared.events.Reply.TheVariants as reply
use Rattle.farm_model.specs.declared.records.Problem.{Problem as Version}
use Rattle.farm_model.specs.Numbered.{item_of, number_or_0}
use Rattle.farm_model.specs.Changes.{tests_of, asked_named}
use Rattle.farm_model.specs.Judgings.{task_of}
use Rattle.farm_model.specs.State.{State, SettingsValue, start, problem_number}
use Rattle.farm_model.specs.Replay.{reply_to}
use Rattle.farm_laws.specs.Laws.{reached}
use Rattle.farm_laws.proofs.Items.{item_at, item_seen}
use Rattle.farm_laws.proofs.Each.{Each}
use Rattle.package_folder.specs.declared.package.Test.{Test}
use Rattle.package_folder.specs.Order.{compare_bytes}
use Rattle.package_folder.specs.Package.{IsPackage}
use Rattle.contest_folder.specs.declared.roster.Problem.{Problem}
use Rattle.contest_folder.specs.declared.roster.Submission.{Submission}
use Rattle.contest_folder.specs.declared.roster.RosterProblem.{RosterProblem}
use Rattle.contest_folder.specs.declared.roster.RosterSubmission.{RosterSubmission}
use Rattle.contest_folder.specs.RosterValue.{RosterValue}
use Rattle.contest_folder.specs.RosterShape.{IsContest, IsPlaced, names_of, problem_named}
use Rattle.contest_folder.specs.JudgingCases.{numbered, case_with, case_in, case_for, case_at}
use Rattle.case_run.specs.Images.{is_image}
use Rattle.parallel_judge.specs.Entering.{NamedProblem, NamedSubmission, problem_event, submission_event, ask_event, waiting}
use Rattle.parallel_judge.specs.Table.{named_problem, named_submission, tests_for, verdict_for, row_for, table_rows}
use Rattle.parallel_judge.specs.Working.{IsFinished}
use Rattle.parallel_judge.proofs.Contests.{HasTests, Apart, IsKnown, first_version, cells_of_named, judging_named, numbered_as, tests_named, asked_of_named}
use Rattle.parallel_judge.specs.Hosts.{host_names, with_hosts}
use Rattle.parallel_judge.specs.UnderWay.{all_hosts, IsUnderWay}
use Rattle.parallel_judge.proofs.Entered.{IsContestOf}
use Rattle.parallel_judge.proofs.Starting.{starts, names_differ, names_few}
use Rattle.parallel_judge.proofs.Reading.{row_more, shown_final}

-- ---- problems

both : (a b : Bool) → a ≡ true → b ≡ true → (a && b) ≡ true
both true true p q = refl
both true false p q = cc
both false b p q = cc

at_most : (n limit : ℕ) → n ≤ limit → nat_le n limit ≡ true
at_most n limit l = grind (arith, nat_tests, l)

has_tests : (problem : Problem) → IsPackage problem.contents → HasTests (named_problem problem)
has_tests problem is = both (nat_le 1 (length problem.contents.tests)) (nat_le (length problem.contents.tests) 1000) (at_most 1 (length problem.contents.tests) is.some) (at_most (length problem.contents.tests) 1000 is.few)

all_have_tests : (problems : List Problem) → All (λ (problem : Problem). IsPackage problem.contents) problems → Each HasTests (map named_problem problems)
all_have_tests [] h = tt
all_have_tests (problem ∷ problems) h =
    (has_tests problem (All-head (λ (p : Problem). IsPackage p.contents) problem problems h), all_have_tests problems (All-tail (λ (p : Problem). IsPackage p.contents) problem problems h))

apart_from : (problem : Problem) (problems : List Problem) → AllByRecursion (λ name. compare_bytes problem.name name ≡ Less) (names_of problems)
    → Each (λ (q : NamedProblem). bytes_eq problem.name q.name ≡ false) (map named_problem problems)
apart_from problem [] h = tt
apart_from problem (other ∷ problems) h = (sym (is_eq-slice_cmp problem.name other.name) ∙ ap is_eq h.0, apart_from problem problems h.1)

all_apart : (problems : List Problem) → IsStrictlySortedBy compare_bytes (names_of problems) → Apart (map named_problem problems)
unfolding IsStrictlySortedBy
all_apart [] h = tt
all_apart (problem ∷ problems) h = (apart_from problem problems h.0, all_apart problems h.1)

-- ---- the problem of a name

either_way : (a b : List ℕ) → bytes_eq a b ≡ bytes_eq b a
either_way a b = elim (bytes_eq b a) as (λ x. bytes_eq b a ≡ x → bytes_eq a b ≡ x) [
  | true ↦ λ e. let same : b ≡ a = (bytes_eq-Decides b a).0 e in (bytes_eq-Decides a b).1 (sym same)
  | false ↦ λ e. elim (bytes_eq a b) as (λ x. bytes_eq a b ≡ x → x ≡ false) [
    | true ↦ λ f. let same : a ≡ b = (bytes_eq-Decides a b).0 f in let no : true ≡ false = sym ((bytes_eq-Decides b a).1 (sym same)) ∙ e in cc
    | false ↦ λ f. refl
  ] refl
] refl

abbrev version_of : SettingsValue → Problem → Version
version_of settings problem = first_version (start settings) (named_problem problem)

abbrev versions : SettingsValue → List Problem → List Version
versions settings problems = map (first_version (start settings)) (map named_problem problems)

version_named : (settings : SettingsValue) (problems : List Problem) (name : List ℕ) → find (λ (version : Version). bytes_eq version.name name) (versions settings problems) ≡ option_map (version_of settings) (problem_named problems name)
version_named settings [] name = refl
version_named settings (problem ∷ problems) name =
    ap (λ b. cond b (Some (version_of settings problem)) (find (λ (version : Version). bytes_eq version.name name) (versions settings problems))) (either_way problem.name name)
    ∙ elim (bytes_eq name problem.name) as (λ b. cond b (Some (version_of settings problem)) (find (λ (version : Version). bytes_eq version.name name) (versions settings problems))
    ≡ option_map (version_of settings) (cond b (Some problem) (problem_named problems name))) [
      | true ↦ refl
      | false ↦ version_named settings problems name
    ]

known_by : (problems : List Problem) (x : Submission) → IsPlaced problems x → (problem : Problem) × (problem_named problems x.problem ≡ Some problem)
known_by problems x placed = elim (problem_named problems x.problem) as (λ (o : Option Problem). is_some o ≡ true → (problem : Problem) × (o ≡ Some problem)) [
  | None ↦ λ h. cc
  | Some problem ↦ λ h. (problem, refl)
] placed

found_version : (settings : SettingsValue) (problems : List Problem) (name : List ℕ) (problem : Problem) → problem_named problems name ≡ Some problem
    → find (λ (version : Version). bytes_eq version.name name) (versions settings problems) ≡ Some (version_of settings problem)
found_version settings problems name problem e = version_named settings problems name ∙ ap (option_map (version_of settings)) e

all_known : (settings : SettingsValue) (problems : List Problem) (xs : List Submission) → All (IsPlaced problems) xs → Each (IsKnown (versions settings problems)) (map named_submission xs)
all_known settings problems [] h = tt
all_known settings problems (x ∷ xs) h =
    let known = known_by problems x (All-head (IsPlaced problems) x xs h) in
    (ap is_some (numbered_as (versions settings problems) x.problem (version_of settings known.0) (found_version settings problems x.problem known.0 known.1)), all_known settings problems xs (All-tail (IsPlaced problems) x xs h))

-- what is found has the name
named_so : (problems : List Problem) (name : List ℕ) (problem : Problem) → problem_named problems name ≡ Some problem → name ≡ problem.name
named_so [] name problem e = cc
named_so (p ∷ problems) name problem e =
    elim (bytes_eq name p.name) as (λ b. bytes_eq name p.name ≡ b → cond b (Some p) (problem_named problems name) ≡ Some problem → name ≡ problem.name) [
      | true ↦ λ same found. let is : p ≡ problem = cc in (bytes_eq-Decides name p.name).0 same ∙ ap (λ (q : Problem). q.name) is
      | false ↦ λ other found. named_so problems name problem found
    ] refl e

-- a judging waits to be asked for where its problem is on demand
all_wait : (settings : SettingsValue) (problems : List Problem) (xs : List Submission) → All (IsPlaced problems) xs
    → Each (λ (x : NamedSubmission). (judging_named (versions settings problems) x).asked ≡ asked_named settings.modes x.problem) (map named_submission xs)
all_wait settings problems [] h = tt
all_wait settings problems (x ∷ xs) h =
    let known = known_by problems x (All-head (IsPlaced problems) x xs h) in
    let name : x.problem ≡ known.0.name = named_so problems x.problem known.0 known.1 in (
      asked_of_named (versions settings problems) x.problem (version_of settings known.0) (found_version settings problems x.problem known.0 known.1)
          ∙ ap (asked_named settings.modes) (sym name),
      all_wait settings problems xs (All-tail (IsPlaced problems) x xs h),
    )

-- ---- how many cells a judging has

same_tests : (roster : RosterValue) (x : Submission) → IsPlaced roster.problems x → cells_of_named (versions roster.settings roster.problems) (named_submission x) ≡ tests_for roster x
same_tests roster x placed =
    let known = known_by roster.problems x placed in
    elim (is_image x.image) as (λ b. cond (not b) 0 (tests_of (versions roster.settings roster.problems) (number_or_0 (problem_number (versions roster.settings roster.problems) x.problem)))
    ≡ cond b (number_or_0 (option_map (λ (problem : Problem). length problem.contents.tests) (problem_named roster.problems x.problem))) 0) [
      | true ↦ tests_named (versions roster.settings roster.problems) x.problem (version_of roster.settings known.0) (found_version roster.settings roster.problems x.problem known.0 known.1)
          ∙ sym (ap (λ (o : Option Problem). number_or_0 (option_map (λ (problem : Problem). length problem.contents.tests) o)) known.1)
      | false ↦ refl
    ]

all_same_tests : (roster : RosterValue) (xs : List Submission) → All (IsPlaced roster.problems) xs → map (cells_of_named (versions roster.settings roster.problems)) (map named_submission xs) ≡ map (tests_for roster) xs
all_same_tests roster [] h = refl
all_same_tests roster (x ∷ xs) h =
    ap (λ n. n ∷ map (cells_of_named (versions roster.settings roster.problems)) (map named_submission xs)) (same_tests roster x (All-head (IsPlaced roster.problems) x xs h))
    ∙ ap (λ ns. tests_for roster x ∷ ns) (all_same_tests roster xs (All-tail (IsPlaced roster.problems) x xs h))

-- ---- each test has a case

same_item : {X : Type 0} (xs : List X) (n : ℕ) → numbered xs n ≡ item_of xs n
same_item xs zero = refl
same_item xs (suc n) =
    let place : suc n - 1 ≡ n = omega arith in
    let some : nat_lt 0 (suc n) ≡ true = grind (arith, nat_tests) in
    sym (ap (λ b. cond b (slice_get xs (suc n - 1)) None) some ∙ ap (slice_get xs) place)

some_test : (tests : List Test) (test : ℕ) → 1 ≤ test → test ≤ length tests → (t : Test) × (numbered tests test ≡ Some t)
some_test tests zero low high = absurd (let no : 1 ≤ 0 = low in omega (arith, no))
some_test tests (suc n) low high = elim (slice_get tests n) as (λ (o : Option Test). slice_get tests n ≡ o → (t : Test) × (o ≡ Some t)) [
  | None ↦ λ e. let no : slice_get tests n ≡ Some _ = slice_get-get_or tests n (record { name = []; input = []; answer = [] }) (omega (arith, high)) in let never = sym e ∙ no in cc
  | Some t ↦ λ e. (t, refl)
] refl

is_there : {X : Type 0} (o : Option X) (x : X) → o ≡ Some x → IsSome o
is_there o x e = ap is_some e

abbrev HasCase : RosterValue → ℕ → ℕ → Submission → Type 0
HasCase roster n test x = tests_for roster x ≡ n → 1 ≤ test → test ≤ n → IsSome (case_for roster.problems test x)

case_by : (roster : RosterValue) (n test : ℕ) (x : Submission) (b : Bool) (o : Option Problem) → is_image x.image ≡ b → problem_named roster.problems x.problem ≡ o → 1 ≤ test → test ≤ n
    → cond b (number_or_0 (option_map (λ (problem : Problem). length problem.contents.tests) o)) 0 ≡ n
    → IsSome (cond b (option_and_then (case_in x.image test) o) None)
case_by roster n test x false o image named low high count = absurd (omega (arith, low, high, count))
case_by roster n test x true None image named low high count = absurd (omega (arith, low, high, count))
case_by roster n test x true (Some problem) image named low high count =
    let t = some_test problem.contents.tests test low (omega (arith, high, count)) in
    is_there (option_map (case_with x.image problem.contents) (numbered problem.contents.tests test)) (case_with x.image problem.contents t.0) (ap (option_map (case_with x.image problem.contents)) t.1)

has_case : (roster : RosterValue) (n test : ℕ) (x : Submission) → HasCase roster n test x
has_case roster n test x count low high = case_by roster n test x (is_image x.image) (problem_named roster.problems x.problem) refl refl low high count

all_cases : (roster : RosterValue) (j n : ℕ) → item_of (map (tests_for roster) roster.submissions) j ≡ Some n → (test : ℕ) → 1 ≤ test → test ≤ n → IsSome (case_at roster (task_of j test))
all_cases roster j n there test low high =
    let seen : option_map (tests_for roster) (item_of roster.submissions j) ≡ Some n = sym (item_seen (tests_for roster) roster.submissions j) ∙ there in
    let item : numbered roster.submissions j ≡ item_of roster.submissions j = same_item roster.submissions j in
    elim (item_of roster.submissions j) as (λ (o : Option Submission). item_of roster.submissions j ≡ o → option_map (tests_for roster) o ≡ Some n → IsSome (case_at roster (task_of j test))) [
      | None ↦ λ e found. cc
      | Some x ↦ λ e found. let count : tests_for roster x ≡ n = cc in
          subst (λ (o : Option Submission). IsSome (option_and_then (case_for roster.problems test) o)) (sym (item ∙ e)) (has_case roster n test x count low high)
    ] refl seen

-- a roster can enter a farm
pub contest_of_roster : (roster : RosterValue) → IsContest roster
    → IsContestOf roster.settings (case_at roster) (map (tests_for roster) roster.submissions) (map named_problem roster.problems) (map named_submission roster.submissions)
contest_of_roster roster is =
    let problems : length (map named_problem roster.problems) ≡ length roster.problems = length-map roster.problems named_problem in
    let submissions : length (map named_submission roster.submissions) ≡ length roster.submissions = length-map roster.submissions named_submission in
    let few_problems = is.few_problems in
    let few = is.few_submissions in
    record {
      tests = all_have_tests roster.problems is.packages;
      apart = all_apart roster.problems is.rising;
      few_problems = omega (arith, few_problems, problems);
      known = all_known roster.settings roster.problems roster.submissions is.placed;
      few = omega (arith, few, submissions);
      lengths = all_same_tests roster roster.submissions is.placed;
      asked = all_wait roster.settings roster.problems roster.submissions is.placed;
      cases = all_cases roster;
    }

-- ---- the roster enters

next_taken : {X : Type 0} (xs : List X) (i : ℕ) (x : X) → slice_get xs i ≡ Some x → take (suc i) xs ≡ take i xs ++ x ∷ []
next_taken [] i x h = cc
next_taken (y ∷ xs) zero x h = let same : y ≡ x = cc in ap (λ z. z ∷ []) same
next_taken (y ∷ xs) (suc i) x h = ap (λ rest. y ∷ rest) (next_taken xs i x h)

pub one_taken : {X : Type 0} (xs : List X) (i : ℕ) (x : X) → slice_get xs i ≡ Some x → take (i + 1) xs ≡ take i xs ++ x ∷ []
one_taken xs i x h = let one : i + 1 ≡ suc i = omega arith in ap (λ n. take n xs) one ∙ next_taken xs i x h

abbrev told_problem : Problem → RosterProblem
told_problem problem = record { name = problem.name; tests = length problem.contents.tests }

-- the events of one more problem
pub problem_events : (problems : List Problem) (i : ℕ) (who : List ℕ) (r : RosterProblem) → who ≡ jury → option_map told_problem (slice_get problems (i + 1 - 1)) ≡ Some r
    → map problem_event (map named_problem (take (i + 1) problems)) ≡ map problem_event (map named_problem (take i problems)) ++ event.Problem who r.name r.tests ∷ []
problem_events problems i who r by_jury told =
    let place : i + 1 - 1 ≡ i = omega arith in
    let here : option_map told_problem (slice_get problems i) ≡ Some r = ap (λ n. option_map told_problem (slice_get problems n)) (sym place) ∙ told in
    elim (slice_get problems i) as (λ (o : Option Problem). slice_get problems i ≡ o → option_map told_problem o ≡ Some r
    → map problem_event (map named_problem (take (i + 1) problems)) ≡ map problem_event (map named_problem (take i problems)) ++ event.Problem who r.name r.tests ∷ []) [
      | None ↦ λ e seen. cc
      | Some problem ↦ λ e seen.
          let same : told_problem problem ≡ r = cc in
          ap (λ xs. map problem_event (map named_problem xs)) (one_taken problems i problem e)
          ∙ ap (map problem_event) (map-append named_problem (take i problems) (problem ∷ []))
          ∙ map-append problem_event (map named_problem (take i problems)) (named_problem problem ∷ [])
          ∙ ap (λ (x : RosterProblem). map problem_event (map named_problem (take i problems)) ++ event.Problem jury x.name x.tests ∷ []) same
          ∙ ap (λ (w : List ℕ). map problem_event (map named_problem (take i problems)) ++ event.Problem w r.name r.tests ∷ []) (sym by_jury)
    ] refl here

abbrev pub told_submission : Submission → RosterSubmission
told_submission x = record { team = x.team; problem = x.problem; broken = not (is_image x.image) }

-- the submission of this number, as it is told
pub told_as : (xs : List Submission) (i : ℕ) (r : RosterSubmission) → option_map told_submission (slice_get xs (i + 1 - 1)) ≡ Some r
    → (x : Submission) × (slice_get xs i ≡ Some x) × (told_submission x ≡ r)
told_as xs i r told =
    let place : i + 1 - 1 ≡ i = omega arith in
    let here : option_map told_submission (slice_get xs i) ≡ Some r = ap (λ n. option_map told_submission (slice_get xs n)) (sym place) ∙ told in
    elim (slice_get xs i) as (λ (o : Option Submission). option_map told_submission o ≡ Some r → (x : Submission) × (o ≡ Some x) × (told_submission x ≡ r)) [
      | None ↦ λ e. cc
      | Some x ↦ λ e. (x, refl, (let same : told_submission x ≡ r = cc in same))
    ] here

-- the events of one more submission
pub submission_events : (xs : List Submission) (i : ℕ) (r : RosterSubmission) → option_map told_submission (slice_get xs (i + 1 - 1)) ≡ Some r
    → map submission_event (map named_submission (take (i + 1) xs)) ≡ map submission_event (map named_submission (take i xs)) ++ event.Submit r.problem Normal r.broken ∷ []
submission_events xs i r told =
    let x = told_as xs i r told in
    ap (λ ys. map submission_event (map named_submission ys)) (one_taken xs i x.0 x.1)
    ∙ ap (map submission_event) (map-append named_submission (take i xs) (x.0 ∷ []))
    ∙ map-append submission_event (map named_submission (take i xs)) (named_submission x.0 ∷ [])
    ∙ ap (λ (y : RosterSubmission). map submission_event (map named_submission (take i xs)) ++ event.Submit y.problem Normal y.broken ∷ []) x.2

-- one submission more may wait
waiting_more : (modes : List NamedMode) (n : ℕ) (xs : List NamedSubmission) (x : NamedSubmission)
    → waiting modes n (xs ++ x ∷ []) ≡ waiting modes n xs ++ cond (asked_named modes x.problem) [] ((n + length xs) ∷ [])
waiting_more modes n [] x =
    let here : n ≡ n + 0 = omega arith in
    elim (asked_named modes x.problem) as (λ b. cond b [] (n ∷ []) ≡ cond b [] ((n + 0) ∷ [])) [ true ↦ refl | false ↦ ap (λ m. m ∷ []) here ]
waiting_more modes n (y ∷ xs) x =
    let place : n + 1 + length xs ≡ n + length (y ∷ xs) = omega arith in
    let rest : waiting modes (n + 1) (xs ++ x ∷ []) ≡ waiting modes (n + 1) xs ++ cond (asked_named modes x.problem) [] ((n + length (y ∷ xs)) ∷ []) =
    waiting_more modes (n + 1) xs x ∙ ap (λ m. waiting modes (n + 1) xs ++ cond (asked_named modes x.problem) [] (m ∷ [])) place in
    elim (asked_named modes y.problem) as (λ b. cond b (waiting modes (n + 1) (xs ++ x ∷ [])) (n ∷ waiting modes (n + 1) (xs ++ x ∷ []))
    ≡ cond b (waiting modes (n + 1) xs) (n ∷ waiting modes (n + 1) xs) ++ cond (asked_named modes x.problem) [] ((n + length (y ∷ xs)) ∷ [])) [
      | true ↦ rest
      | false ↦ ap (λ ms. n ∷ ms) rest
    ]

long_enough : {X : Type 0} (xs : List X) (i : ℕ) (x : X) → slice_get xs i ≡ Some x → length (take i xs) ≡ i
long_enough [] i x h = cc
long_enough (y ∷ xs) zero x h = refl
long_enough (y ∷ xs) (suc i) x h = let rest = long_enough xs i x h in omega (arith, rest)

-- the events that ask for what waits, with one more submission
ask_events : (modes : List NamedMode) (xs : List Submission) (i : ℕ) (r : RosterSubmission) → option_map told_submission (slice_get xs (i + 1 - 1)) ≡ Some r
    → map ask_event (waiting modes 1 (map named_submission (take (i + 1) xs)))
    ≡ map ask_event (waiting modes 1 (map named_submission (take i xs))) ++ cond (asked_named modes r.problem) [] (ask_event (i + 1) ∷ [])
ask_events modes xs i r told =
    let x = told_as xs i r told in
    let number : 1 + length (map named_submission (take i xs)) ≡ i + 1 = let a = length-map (take i xs) named_submission in let b = long_enough xs i x.0 x.1 in omega (arith, a, b) in
    let problem : x.0.problem ≡ r.problem = ap (λ (y : RosterSubmission). y.problem) x.2 in
    ap (λ ys. map ask_event (waiting modes 1 (map named_submission ys))) (one_taken xs i x.0 x.1)
    ∙ ap (λ ys. map ask_event (waiting modes 1 ys)) (map-append named_submission (take i xs) (x.0 ∷ []))
    ∙ ap (map ask_event) (waiting_more modes 1 (map named_submission (take i xs)) (named_submission x.0)
    ∙ ap (λ m. waiting modes 1 (map named_submission (take i xs)) ++ cond (asked_named modes x.0.problem) [] (m ∷ [])) number
    ∙ ap (λ name. waiting modes 1 (map named_submission (take i xs)) ++ cond (asked_named modes name) [] ((i + 1) ∷ [])) problem)
    ∙ map-append ask_event (waiting modes 1 (map named_submission (take i xs))) (cond (asked_named modes r.problem) [] ((i + 1) ∷ []))
    ∙ ap (λ es. map ask_event (waiting modes 1 (map named_submission (take i xs))) ++ es) (elim (asked_named modes r.problem) as (λ b. map ask_event (cond b [] ((i + 1) ∷ [])) ≡ cond b [] (ask_event (i + 1) ∷ [])) [ true ↦ refl | false ↦ refl ])

-- what was asked for from the start is not asked for again
pub ask_none : (modes : List NamedMode) (xs : List Submission) (i : ℕ) (r : RosterSubmission) → option_map told_submission (slice_get xs (i + 1 - 1)) ≡ Some r
    → asked_named modes r.problem ≡ true
    → map ask_event (waiting modes 1 (map named_submission (take (i + 1) xs))) ≡ map ask_event (waiting modes 1 (map named_submission (take i xs)))
ask_none modes xs i r told asked =
    ask_events modes xs i r told
    ∙ ap (λ b. map ask_event (waiting modes 1 (map named_submission (take i xs))) ++ cond b [] (ask_event (i + 1) ∷ [])) asked
    ∙ append-nil (map ask_event (waiting modes 1 (map named_submission (take i xs))))

-- what waits is asked for
pub ask_one : (modes : List NamedMode) (xs : List Submission) (i : ℕ) (who : List ℕ) (r : RosterSubmission) → who ≡ jury → option_map told_submission (slice_get xs (i + 1 - 1)) ≡ Some r
    → asked_named modes r.problem ≡ false
    → map ask_event (waiting modes 1 (map named_submission (take (i + 1) xs))) ≡ map ask_event (waiting modes 1 (map named_submission (take i xs))) ++ event.Ask who (i + 1) ∷ []
ask_one modes xs i who r by_jury told waits =
    ask_events modes xs i r told
    ∙ ap (λ b. map ask_event (waiting modes 1 (map named_submission (take i xs))) ++ cond b [] (ask_event (i + 1) ∷ [])) waits
    ∙ ap (λ (w : List ℕ). map ask_event (waiting modes 1 (map named_submission (take i xs))) ++ event.Ask w (i + 1) ∷ []) (sym by_jury)

-- the events of one more host
pub host_events : (hosts i : ℕ) (name : List ℕ) → i < hosts → slice_get all_hosts (i + 1 - 1) ≡ Some name
    → map event.Host (host_names (i + 1)) ≡ map event.Host (host_names i) ++ event.Host name ∷ []
host_events hosts i name l there =
    let place : i + 1 - 1 ≡ i = omega arith in
    ap (map event.Host) (one_taken all_hosts i name (ap (slice_get all_hosts) (sym place) ∙ there)) ∙ map-append event.Host (host_names i) (name ∷ [])

-- the roster's contest and its hosts have entered
pub roster_starts : (roster : RosterValue) (hosts : ℕ) → IsContest roster
    → IsUnderWay roster.settings (case_at roster) (map (tests_for roster) roster.submissions) [] (host_names hosts) (reached roster.settings (with_hosts roster hosts))
roster_starts roster hosts is =
    starts roster.settings (case_at roster) (map (tests_for roster) roster.submissions) (host_names hosts) (map named_problem roster.problems) (map named_submission roster.submissions)
    (contest_of_roster roster is) (names_differ hosts) (names_few hosts)

-- ---- the table

-- one more row
pub row_next : (roster : RosterValue) (s t : State) (rows : List TableRow) (i : ℕ) (r : RosterSubmission) (v : Verdict)
    → IsFinished roster.settings (case_at roster) (map (tests_for roster) roster.submissions) s → option_map told_submission (slice_get roster.submissions (i + 1 - 1)) ≡ Some r
    → t ≡ s → ((verdict : Verdict) → reply_to t (event.Show (i + 1)) ≡ reply.Shown (Final verdict) → v ≡ verdict)
    → rows ≡ map (row_for roster) (take i (enumerate_from 1 roster.submissions))
    → rows ++ record { number = i + 1; team = r.team; problem = r.problem; verdict = v } ∷ [] ≡ map (row_for roster) (take (i + 1) (enumerate_from 1 roster.submissions))
row_next roster s t rows i r v done told same shown before =
    let x = told_as roster.submissions i r told in
    let tests : slice_get (map (tests_for roster) roster.submissions) i ≡ Some (tests_for roster x.0) = slice_get-map (tests_for roster) roster.submissions i ∙ ap (option_map (tests_for roster)) x.1 in
    let final = shown_final roster.settings (case_at roster) (map (tests_for roster) roster.submissions) s i (tests_for roster x.0) done tests in
    let verdict : v ≡ verdict_for roster (i + 1) x.0 = shown (verdict_for roster (i + 1) x.0) (ap (λ (y : State). reply_to y (event.Show (i + 1))) same ∙ final) in
    let number : i + 1 ≡ 1 + i = omega arith in
    let one : i + 1 ≡ suc i = omega arith in
    let row : record { number = i + 1; team = r.team; problem = r.problem; verdict = v } ≡ row_for roster (1 + i, x.0) =
    ap (λ w. record { number = i + 1; team = r.team; problem = r.problem; verdict = w }) verdict
    ∙ ap (λ (y : RosterSubmission). record { number = i + 1; team = y.team; problem = y.problem; verdict = verdict_for roster (i + 1) x.0 }) (sym x.2)
    ∙ ap (λ n. row_for roster (n, x.0)) number in
    ap (λ ys. ys ++ record { number = i + 1; team = r.team; problem = r.problem; verdict = v } ∷ []) before
    ∙ ap (λ (y : TableRow). map (row_for roster) (take i (enumerate_from 1 roster.submissions)) ++ y ∷ []) row
    ∙ sym (row_more (row_for roster) roster.submissions 1 i x.0 x.1)
    ∙ ap (λ n. map (row_for roster) (take n (enumerate_from 1 roster.submissions))) (sym one)

-- each submission is shown final, with the verdict of its row
pub each_shown_final : (roster : RosterValue) (s : State) → IsFinished roster.settings (case_at roster) (map (tests_for roster) roster.submissions) s
    → (n : ℕ) (x : Submission) → item_of roster.submissions n ≡ Some x → reply_to s (event.Show n) ≡ reply.Shown (Final (verdict_for roster n x))
each_shown_final roster s done n x is =
    let at = item_at roster.submissions n x is in
    let positive = at.0 in
    let whole : n - 1 + 1 ≡ n = omega (arith, positive) in
    let tests : slice_get (map (tests_for roster) roster.submissions) (n - 1) ≡ Some (tests_for roster x) =
    slice_get-map (tests_for roster) roster.submissions (n - 1) ∙ ap (option_map (tests_for roster)) at.1 in
    subst (λ (m : ℕ). reply_to s (event.Show m) ≡ reply.Shown (Final (verdict_for roster m x))) whole
    (shown_final roster.settings (case_at roster) (map (tests_for roster) roster.submissions) s (n - 1) (tests_for roster x) done tests)

-- all of them
pub rows_whole : (roster : RosterValue) (n : ℕ) (rows : List TableRow) → length roster.submissions ≤ n → rows ≡ map (row_for roster) (take n (enumerate_from 1 roster.submissions)) → rows ≡ table_rows roster
unfolding table_rows
rows_whole roster n rows all is =
    let count = length-enumerate_from 1 roster.submissions in
    is ∙ ap (map (row_for roster)) (take_all n (enumerate_from 1 roster.submissions) (omega (arith, all, count)))
