-- What is reported after a run of events.
use Rattle.std.proofs.Common.{ℕ, zero, suc, ◌≡◌, ◌≢◌, ◌+◌, List, [], ◌∷◌, ◌++◌, Option, Some, None, Bool, true, false, inl, inr, cond, refl, sym, ap, ◌∙◌, subst, arith, length, map}
use Rattle.std.specs.Prelude.{IsSome, All, IsSomeAnd}
use Rattle.std.specs.Option.{option_map, option_or, unwrap_or, is_some}
use Rattle.farm_kinds.specs.declared.kinds.Kind.{Kind}
use Rattle.farm_kinds.specs.declared.outcomes.Task.{Task}
use Rattle.farm_kinds.specs.declared.outcomes.Verdict.{Verdict}
use Rattle.farm_kinds.specs.declared.outcomes.Answer.{Answer}
use Rattle.farm_kinds.specs.declared.outcomes.Answer.TheVariants.{Final, Pending}
use Rattle.farm_kinds.specs.declared.outcomes.AskEnd.{AskEnd}
use Rattle.farm_kinds.specs.declared.outcomes.AskEnd.TheVariants as ask
use Rattle.farm_kinds.specs.declared.outcomes.Mode.{Mode}
use Rattle.farm_kinds.specs.declared.outcomes.Mode.TheVariants.{Lazy}
use Rattle.farm_kinds.specs.declared.events.Event.{Event}
use Rattle.farm_kinds.specs.declared.events.Event.TheVariants as event
use Rattle.farm_kinds.specs.declared.events.Reply.{Reply}
use Rattle.farm_kinds.specs.declared.events.Reply.TheVariants as reply
use Rattle.farm_kinds.specs.RuleValue.{RuleValue}
use Rattle.farm_kinds.specs.Rules.{remap_of, possible_kinds}
use Rattle.farm_model.specs.Numbered.{item_of, numbers_to}
use Rattle.farm_model.specs.Refusing.{refused_or, when, unless, first_of}
use Rattle.farm_model.specs.Leases.{same_task}
use Rattle.farm_model.specs.Rows.{Row, answer_of, kinds_of}
use Rattle.farm_model.specs.Open.{is_wanted}
use Rattle.farm_model.specs.Judgings.{Judging, task_of, is_dropped, is_asked}
use Rattle.farm_model.specs.State.{State, SettingsValue, start, answer_at}
use Rattle.farm_model.specs.Refusals.{ask_reply, refusal_of}
use Rattle.farm_model.specs.Changes.{accepted}
use Rattle.farm_model.specs.Farm.{farm_step, Stepped}
use Rattle.farm_model.specs.Replay.{state_after, reply_to, counted_in, kind_for, cell_for, given_by, Truth, AgreesWith, IsHonest, KnowsAll, true_kinds}
use Rattle.farm_laws.specs.Laws.{reached, row_in, mode_in, IsJudging, replayed_row, Shows, Reports, FinalIsExact, IsWantedCell, PendingIsExact, HandsOutWanted, FetchesWanted, FinalStays, CountedOnce, EqualsOneThread, OnlyCountedFills, EachStepKeepsPromise, StepKeepsPromise, RowIsReplayed, KeepsPromise}
use Rattle.lazy_stop.specs.Matters.{Extends}
use Rattle.farm_laws.proofs.Items.{there}
use Rattle.farm_laws.proofs.Cells.{cell_at, or_none}
use Rattle.farm_laws.proofs.Steps.{one_cell, steps, not_counted}
use Rattle.farm_laws.proofs.Runs.{runs, counts, tasks_same}
use Rattle.farm_laws.proofs.Rows.{final_verdict, map_range, true_row}
use Rattle.farm_laws.proofs.Later.{pending_wanted, extends_cells, answer_stays, answer_in_full}
use Rattle.farm_laws.proofs.Handing.{IsOpen, hands_open, batches_open}
use Rattle.farm_laws.proofs.Each.{each_all, each_turned}
use Rattle.farm_laws.proofs.Moves.{only_apply}
use Rattle.farm_laws.proofs.Cancels.{cancel_changes_none}
use Rattle.farm_laws.proofs.Applying.{applies_to_all}
use Rattle.farm_laws.proofs.RowCells.{Told, reached_cell, row_cells, row_length, row_same, mode_same}
use Rattle.farm_laws.proofs.Counting.{counted_fills}
use Rattle.farm_laws.proofs.Outputs.{state_after-append}

-- Rows

replayed : (settings : SettingsValue) (es : List Event) (j : ℕ) → row_in (reached settings es) j ≡ replayed_row settings es j
replayed settings es j =
    sym (row_cells (reached settings es) j)
    ∙ map_range (cell_at (reached settings es).judge.judgings j) (λ t. cell_for settings.rule (counted_in (start settings) es) (task_of j t)) 1 (length (row_in (reached settings es) j))
    (λ i lt. reached_cell settings es j (1 + i))

pub row_is_replayed : (settings : SettingsValue) (es : List Event) → RowIsReplayed settings es
row_is_replayed settings es j is = replayed settings es j

-- What is shown

shown_by : (s : State) (j : ℕ) (g : Judging) → item_of s.judge.judgings j ≡ Some g → reply_to s (event.Show j) ≡ reply.Shown (answer_of s.judge.rule (mode_in s j) (row_in s j))
shown_by s j g h =
    ap (λ (o : Option Judging). (refused_or s (unless (is_some o) (reply.NoJudging j)) (s, reply.Shown (unwrap_or (option_map (λ judging. answer_of s.judge.rule judging.mode judging.row) o) Pending))).1) h
    ∙ sym (ap (λ (o : Option Judging). reply.Shown (answer_of s.judge.rule (unwrap_or (option_map (λ judging. judging.mode) o) Lazy) (unwrap_or (option_map (λ judging. judging.row) o) []))) h)

pub shows_answer : (settings : SettingsValue) (es : List Event) (j : ℕ) → IsJudging (reached settings es) j
    → reply_to (reached settings es) (event.Show j) ≡ reply.Shown (answer_of settings.rule (mode_in (reached settings es) j) (row_in (reached settings es) j))
shows_answer settings es j is =
    let g = there (item_of (reached settings es).judge.judgings j) is in
    let r = runs (start settings) es in
    shown_by (reached settings es) j g.0 g.1
    ∙ ap (λ rule. reply.Shown (answer_of rule (mode_in (reached settings es) j) (row_in (reached settings es) j))) r.rule

-- only a judging that is there is shown
shown_there : (s : State) (j : ℕ) (a : Answer) (o : Option Judging)
    → (refused_or s (unless (is_some o) (reply.NoJudging j)) (s, reply.Shown (unwrap_or (option_map (λ judging. answer_of s.judge.rule judging.mode judging.row) o) Pending))).1 ≡ reply.Shown a → IsSome o
shown_there s j a None h = cc
shown_there s j a (Some g) h = refl

pub shows_judging : (settings : SettingsValue) (es : List Event) (j : ℕ) (a : Answer) → Shows settings es j a → IsJudging (reached settings es) j
shows_judging settings es j a h = shown_there (reached settings es) j a (item_of (reached settings es).judge.judgings j) h

same_shown : (a b : Answer) → reply.Shown a ≡ reply.Shown b → a ≡ b
same_shown a b h = cc

pub shows_same : (settings : SettingsValue) (es : List Event) (j : ℕ) (a : Answer) → Shows settings es j a → answer_of settings.rule (mode_in (reached settings es) j) (row_in (reached settings es) j) ≡ a
shows_same settings es j a h = same_shown _ a (sym (shows_answer settings es j (shows_judging settings es j a h)) ∙ h)

pub same_shows : (settings : SettingsValue) (es : List Event) (j : ℕ) (a : Answer) → IsJudging (reached settings es) j → answer_of settings.rule (mode_in (reached settings es) j) (row_in (reached settings es) j) ≡ a → Shows settings es j a
same_shows settings es j a is h = shows_answer settings es j is ∙ ap reply.Shown h

replayed_answer : (settings : SettingsValue) (es : List Event) (j : ℕ) → answer_of settings.rule (mode_in (reached settings es) j) (row_in (reached settings es) j) ≡ answer_of settings.rule (mode_in (reached settings es) j) (replayed_row settings es j)
replayed_answer settings es j = ap (answer_of settings.rule (mode_in (reached settings es) j)) (replayed settings es j)

-- an accepted `ask` is answered as a `show`
asked_shown : (s : State) (who : List ℕ) (j : ℕ) → refusal_of s (event.Ask who j) ≡ None → IsJudging s j → reply_to s (event.Ask who j) ≡ reply_to s (event.Show j)
asked_shown s who j none is =
    ap (λ (r : Option Reply). (refused_or s r (accepted s (event.Ask who j))).1) none
    ∙ sym (ap (λ b. (refused_or s (unless b (reply.NoJudging j)) (s, reply.Shown (answer_at s j))).1) is)

-- the reply to an event that asks what is reported
shown : (s : State) (e : Event) (j : ℕ) → Reports s e j → IsJudging s j → reply_to s e ≡ reply_to s (event.Show j)
shown s e j (inl at) is = ap (reply_to s) at
shown s e j (inr a) is = ap (reply_to s) a.1 ∙ asked_shown s a.0 j a.2 is

ask_there : (s : State) (j : ℕ) (b : Bool) (others : List (Option AskEnd)) → option_map (ask_reply s j) (first_of (unless b ask.NoJudging ∷ others)) ≡ None → b ≡ true
ask_there s j true others h = refl
ask_there s j false others h = cc

-- and is of a judging that is there, where it is answered with what is reported
reports_there : (settings : SettingsValue) (es : List Event) (e : Event) (j : ℕ) (a : Answer) → Reports (reached settings es) e j → reply_to (reached settings es) e ≡ reply.Shown a → IsJudging (reached settings es) j
reports_there settings es e j a (inl at) h = shows_judging settings es j a (sym (ap (reply_to (reached settings es)) at) ∙ h)
reports_there settings es e j a (inr asked) h =
    let s = reached settings es in
    ask_there s j (is_some (item_of s.judge.judgings j)) (when (is_dropped s.judge.judgings j) ask.Dropped ∷ when (is_asked s.judge.judgings j) ask.Already ∷ []) asked.2

pub final_is_exact : (settings : SettingsValue) (es : List Event) (e : Event) → FinalIsExact settings es e (Told settings es e)
final_is_exact settings es e j v at is = let same = shown (reached settings es) e j at is in (
  λ h. sym (replayed_answer settings es j) ∙ shows_same settings es j (Final v) (sym same ∙ h),
  λ h. same ∙ same_shows settings es j (Final v) is (replayed_answer settings es j ∙ h),
)

pub pending_is_exact : (settings : SettingsValue) (es : List Event) (e : Event) → PendingIsExact settings es e (Told settings es e)
pending_is_exact settings es e j at is =
    let same = shown (reached settings es) e j at is in
    let wanted = pending_wanted settings.rule (mode_in (reached settings es) j) (replayed_row settings es j) in (
      λ h. wanted.0 (sym (replayed_answer settings es j) ∙ shows_same settings es j Pending (sym same ∙ h)),
      λ w. same ∙ same_shows settings es j Pending is (replayed_answer settings es j ∙ wanted.1 w),
    )

pub counted_once : (settings : SettingsValue) (es : List Event) → CountedOnce settings es
counted_once settings es task = (counts (start settings) es task).once

pub only_counted_fills : (settings : SettingsValue) (es : List Event) (e : Event) → OnlyCountedFills settings es (farm_step (reached settings es) e).0 (Told settings es e)
only_counted_fills settings es e other j is =
    let s = reached settings es in
    let a = steps s e in
    let none = not_counted (reply_to s e) (given_by e) other in
    row_same s (farm_step s e).0 a.more j is a.lengths
    (λ i lt. a.cells j (1 + i) ∙ ap (λ o. option_or (cell_at s.judge.judgings j (1 + i)) (one_cell s.judge.rule o (task_of j (1 + i)))) none ∙ or_none (cell_at s.judge.judgings j (1 + i)))

-- Final stays

-- the row of a judging is extended by later events
row_extends : (s : State) (later : List Event) (j : ℕ) → IsJudging s j → Extends (possible_kinds s.judge.rule) (row_in s j) (row_in (state_after s later) j)
row_extends s later j is =
    let t = state_after s later in
    let r = runs s later in
    let n = (row_length s t r.more j is r.lengths).1 in
    let cells = extends_cells s.judge.rule (cell_at s.judge.judgings j) (cell_at t.judge.judgings j) (λ test. kind_for (task_of j test) (counted_in s later)) (r.cells j) 1 (length (row_in s j)) in
    let new : map (cell_at t.judge.judgings j) (numbers_to (length (row_in s j))) ≡ row_in t j = ap (λ (m : ℕ). map (cell_at t.judge.judgings j) (numbers_to m)) (sym n) ∙ row_cells t j in
    subst (λ (row : Row). Extends (possible_kinds s.judge.rule) row (row_in t j)) (row_cells s j)
    (subst (λ (row : Row). Extends (possible_kinds s.judge.rule) (map (cell_at s.judge.judgings j) (numbers_to (length (row_in s j)))) row) new cells)

final_after : (settings : SettingsValue) (es later : List Event) (j : ℕ) (v : Verdict) → Shows settings es j (Final v) → Shows settings (es ++ later) j (Final v)
final_after settings es later j v h =
    let s = reached settings es in
    let is = shows_judging settings es j (Final v) h in
    let r = runs s later in
    let extends = subst (λ (rule : RuleValue). Extends (possible_kinds rule) (row_in s j) (row_in (state_after s later) j)) (runs (start settings) es).rule (row_extends s later j is) in
    let kept = answer_stays settings.rule (mode_in s j) (row_in s j) (row_in (state_after s later) j) v extends (shows_same settings es j (Final v) h) in
    let both = state_after-append (start settings) es later in
    same_shows settings (es ++ later) j (Final v)
    (subst (λ (t : State). IsJudging t j) (sym both) (row_length s (state_after s later) r.more j is r.lengths).0)
    (ap (λ (t : State). answer_of settings.rule (mode_in t j) (row_in t j)) both
    ∙ ap (λ (mode : Mode). answer_of settings.rule mode (row_in (state_after s later) j)) (mode_same s (state_after s later) r.more_modes j is r.modes)
    ∙ kept)

pub final_stays : (settings : SettingsValue) (es : List Event) (e : Event) → FinalStays settings es e (Told settings es e)
final_stays settings es e before later j v at split h =
    let kept : Shows settings es j (Final v) = ap (λ events. reply_to (reached settings events) (event.Show j)) split ∙ final_after settings before later j v h in
    shown (reached settings es) e j at (shows_judging settings es j (Final v) kept) ∙ kept

-- One thread

-- what was counted for a task agrees with the truth
agrees : (rule : RuleValue) (truth : Truth) (counted : List (Task × Kind)) (task : Task) (k : Kind) → All (AgreesWith rule truth) counted → kind_for task counted ≡ Some k → AgreesWith rule truth (task, k)
agrees rule truth [] task k honest h = cc
agrees rule truth (p ∷ ps) task k honest h =
    elim (same_task p.0 task) as (λ b. same_task p.0 task ≡ b → cond b (Some p.1) (kind_for task ps) ≡ Some k → AgreesWith rule truth (task, k)) [
      | true ↦ λ e f.
          let kind : p.1 ≡ k = cc in
          subst (λ (t : Task). AgreesWith rule truth (t, k)) (tasks_same p.0 task e) (subst (λ (x : Kind). AgreesWith rule truth (p.0, x)) kind (honest zero p (omega arith)))
      | false ↦ λ e f. agrees rule truth ps task k (λ i d lt. honest (suc i) d (omega arith)) f
    ] refl h

counted_kind : (rule : RuleValue) (o : Option Kind) (k : Kind) → option_map (remap_of rule) o ≡ Some k → (x : Kind) × (o ≡ Some x) × (remap_of rule x ≡ k)
counted_kind rule None k h = cc
counted_kind rule (Some x) k h = (x, refl, cc)

known_kind : (rule : RuleValue) (o : Option Kind) (x k : Kind) → IsSomeAnd o (λ kind. remap_of rule x ≡ remap_of rule kind) → remap_of rule x ≡ k → (y : Kind) × (o ≡ Some y) × (remap_of rule y ≡ k)
known_kind rule None x k h e = absurd h
known_kind rule (Some y) x k h e = (y, refl, sym h ∙ e)

-- a filled cell holds what its test truly counts as
true_cell : (settings : SettingsValue) (es : List Event) (truth : Truth) (j t : ℕ) (k : Kind) → IsHonest (start settings) es truth → cell_at (reached settings es).judge.judgings j t ≡ Some k
    → (y : Kind) × (truth (task_of j t) ≡ Some y) × (cell_at (reached settings es).judge.judgings j t ≡ Some (remap_of settings.rule y))
true_cell settings es truth j t k honest cell =
    let counted = counted_in (start settings) es in
    let given = counted_kind settings.rule (kind_for (task_of j t) counted) k (sym (reached_cell settings es j t) ∙ cell) in
    let known = known_kind settings.rule (truth (task_of j t)) given.0 k (agrees settings.rule truth counted (task_of j t) given.0 honest given.1) given.2 in
    (known.0, known.1, cell ∙ sym (ap (λ (x : Kind). Some x) known.2))

-- the cell of a test whose truth is known, once it is filled
abbrev truth_at : SettingsValue → Truth → ℕ → ℕ → Option Kind
truth_at settings truth j test = option_map (remap_of settings.rule) (truth (task_of j test))

-- a cell that is filled holds it already
truth_later : (settings : SettingsValue) (es : List Event) (truth : Truth) (j test : ℕ) → IsHonest (start settings) es truth
    → truth_at settings truth j test ≡ option_or (cell_at (reached settings es).judge.judgings j test) (truth_at settings truth j test)
truth_later settings es truth j test honest =
    let cell = cell_at (reached settings es).judge.judgings j test in
    elim cell as (λ o. cell ≡ o → truth_at settings truth j test ≡ option_or o (truth_at settings truth j test)) [
      | None ↦ λ e. refl
      | Some k ↦ λ e.
          let known = true_cell settings es truth j test k honest e in
          ap (option_map (remap_of settings.rule)) known.1 ∙ sym known.2 ∙ e
    ] refl

-- the row of a judging, once every cell holds what its test truly counts as
abbrev truth_row : SettingsValue → Truth → ℕ → ℕ → Row
truth_row settings truth j n = map (truth_at settings truth j) (numbers_to n)

truth_extends : (settings : SettingsValue) (es : List Event) (truth : Truth) (j : ℕ) → IsHonest (start settings) es truth
    → Extends (possible_kinds settings.rule) (row_in (reached settings es) j) (truth_row settings truth j (length (row_in (reached settings es) j)))
truth_extends settings es truth j honest =
    let s = reached settings es in
    let n = length (row_in s j) in
    subst (λ (row : Row). Extends (possible_kinds settings.rule) row (truth_row settings truth j n)) (row_cells s j)
    (extends_cells settings.rule (cell_at s.judge.judgings j) (truth_at settings truth j) (λ test. truth (task_of j test)) (λ test. truth_later settings es truth j test honest) 1 n)

truth_kinds : (settings : SettingsValue) (truth : Truth) (j n : ℕ) → KnowsAll truth j n → kinds_of (truth_row settings truth j n) ≡ Some (true_kinds settings.rule truth j n)
truth_kinds settings truth j n knows = true_row settings.rule (truth_at settings truth j) (λ test. truth (task_of j test)) 1 n (λ i lt.
    let k = there (truth (task_of j (1 + i))) (knows (1 + i) (omega arith) (omega arith)) in
    (k.0, k.1, ap (option_map (remap_of settings.rule)) k.1))

pub equals_one_thread : (settings : SettingsValue) (es : List Event) (e : Event) → EqualsOneThread settings es e (Told settings es e)
equals_one_thread settings es e truth j v at honest knows h =
    let row = row_in (reached settings es) j in
    let n = length row in
    let kinds = truth_kinds settings truth j n knows in
    let answer = answer_in_full settings.rule (mode_in (reached settings es) j) row (truth_row settings truth j n) v (true_kinds settings.rule truth j n) (truth_extends settings es truth j honest) (shows_same settings es j (Final v) (sym (shown (reached settings es) e j at (reports_there settings es e j (Final v) at h)) ∙ h)) kinds in
    final_verdict settings.rule (truth_row settings truth j n) (true_kinds settings.rule truth j n) v kinds answer

-- Tasks that are handed out

-- an open task of a judging is wanted, in a judging that was asked for
open_wanted : (settings : SettingsValue) (es : List Event) (task : Task) → IsOpen (reached settings es).judge.rule (reached settings es).judge.judgings task
    → (is_asked (reached settings es).judge.judgings task.judging ≡ true)
    × IsWantedCell settings (mode_in (reached settings es) task.judging) (row_in (reached settings es) task.judging) task.test
open_wanted settings es task given =
    let s = reached settings es in
    let r = runs (start settings) es in
    let row : row_in s task.judging ≡ given.judging.row = ap (λ (o : Option Judging). unwrap_or (option_map (λ judging. judging.row) o) []) given.there in
    let mode : mode_in s task.judging ≡ given.judging.mode = ap (λ (o : Option Judging). unwrap_or (option_map (λ judging. judging.mode) o) Lazy) given.there in
    let asked : is_asked s.judge.judgings task.judging ≡ true = ap (λ (o : Option Judging). unwrap_or (option_map (λ judging. judging.asked) o) false) given.there ∙ given.asked in
    let wanted : is_wanted settings.rule given.judging.mode given.judging.row task.test ≡ true =
    ap (λ (rule : RuleValue). is_wanted rule given.judging.mode given.judging.row task.test) (sym r.rule) ∙ given.wanted in (
      asked,
      subst (λ (m : Mode). IsWantedCell settings m (row_in s task.judging) task.test) (sym mode)
          (subst (λ (cells : Row). IsWantedCell settings given.judging.mode cells task.test) (sym row) (given.empty, wanted)),
    )

pub hands_out_wanted : (settings : SettingsValue) (es : List Event) (e : Event) → HandsOutWanted settings es (Told settings es e)
hands_out_wanted settings es e task until h =
    let is = open_wanted settings es task (hands_open (reached settings es) e task until h) in
    record { task = task; until = until; handed = h; asked = is.0; wanted = is.1 }

pub fetches_wanted : (settings : SettingsValue) (es : List Event) (e : Event) → FetchesWanted settings es (Told settings es e)
fetches_wanted settings es e j tests until h =
    let s = reached settings es in
    let opens = batches_open s e j tests until h in
    record {
      judging = j;
      tests = tests;
      until = until;
      handed = h;
      asked = opens.0;
      wanted = each_all (λ test. IsWantedCell settings (mode_in s j) (row_in s j) test) tests
          (each_turned (λ test. IsOpen s.judge.rule s.judge.judgings (task_of j test)) (λ test. IsWantedCell settings (mode_in s j) (row_in s j) test) (λ test given. (open_wanted settings es (task_of j test) given).1) tests opens.1);
    }

-- The laws

pub step_keeps_promise : (settings : SettingsValue) (es : List Event) → EachStepKeepsPromise settings es
step_keeps_promise settings es e = record {
  final_is_exact = final_is_exact settings es e;
  pending_is_exact = pending_is_exact settings es e;
  final_stays = final_stays settings es e;
  equals_one_thread = equals_one_thread settings es e;
  hands_out_wanted = hands_out_wanted settings es e;
  fetches_wanted = fetches_wanted settings es e;
  only_counted_fills = only_counted_fills settings es e;
  counted_fills = counted_fills settings es e;
  applies_to_all = applies_to_all settings es e;
  cancel_changes_none = cancel_changes_none settings es e;
  only_apply_moves = λ none. only_apply (reached settings es) e none;
}

-- what a step keeps whose state and reply are told otherwise
pub stepped_keeps : (settings : SettingsValue) (es : List Event) (e : Event) (old new : State) (r : Reply) → old ≡ reached settings es → r ≢ reply.NoMemory → Stepped old e new r → StepKeepsPromise settings es e new r
stepped_keeps settings es e old new r at answered stepped =
    let s = reached settings es in
    let state : new ≡ (farm_step s e).0 = stepped.state answered ∙ ap (λ (t : State). (farm_step t e).0) at in
    let told : r ≡ (farm_step s e).1 = stepped.answer answered ∙ ap (λ (t : State). (farm_step t e).1) at in
    subst (λ (t : State). StepKeepsPromise settings es e t r) (sym state) (subst (λ (x : Reply). StepKeepsPromise settings es e (farm_step s e).0 x) (sym told) (step_keeps_promise settings es e))

pub keeps_promise : (settings : SettingsValue) (es : List Event) → KeepsPromise settings es
keeps_promise settings es = record {
  each_step = step_keeps_promise settings es;
  counted_once = counted_once settings es;
  row_is_replayed = row_is_replayed settings es;
}
