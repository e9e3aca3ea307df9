-- What one event does to the judgings.
use Rattle.std.proofs.Common.{ℕ, ◌≡◌, ◌≢◌, ◌-◌, List, [], ◌∷◌, ◌++◌, Option, Some, None, Bool, true, false, cond, refl, sym, ap, ◌∙◌, subst, length, map}
use Rattle.std.specs.Option.{option_map, option_or, is_some}
use Rattle.std.proofs.Math.ListN.{length-set}
use Rattle.std.proofs.lemmas.List.{append-nil, map-append}
use Rattle.farm_kinds.specs.declared.kinds.Kind.{Kind}
use Rattle.farm_kinds.specs.declared.outcomes.Class.{Class}
use Rattle.farm_kinds.specs.declared.outcomes.Class.TheVariants.{Low}
use Rattle.farm_kinds.specs.declared.outcomes.Mode.{Mode}
use Rattle.farm_kinds.specs.declared.outcomes.Count.{Count}
use Rattle.farm_kinds.specs.declared.outcomes.Task.{Task}
use Rattle.farm_kinds.specs.declared.events.Event.{Event}
use Rattle.farm_kinds.specs.declared.events.Event.TheVariants as event
use Rattle.farm_kinds.specs.declared.events.Reply.{Reply}
use Rattle.farm_kinds.specs.declared.events.Reply.TheVariants as reply
use Rattle.farm_kinds.specs.RuleValue.{RuleValue}
use Rattle.farm_kinds.specs.Rules.{remap_of}
use Rattle.farm_model.specs.Numbered.{item_of, number_or_0}
use Rattle.farm_model.specs.Refusing.{unless, first_of, refused_or}
use Rattle.farm_model.specs.Leases.{same_task}
use Rattle.farm_model.specs.Judgings.{Judging, task_of, cell_of, entry_refusal, result_refusal, fill_cell, with_result}
use Rattle.farm_model.specs.Rejudgings.{members_in, new_judgings}
use Rattle.farm_model.specs.Judge.{JudgeState, add_judgings, counted}
use Rattle.farm_model.specs.State.{State, problem_number, up_number}
use Rattle.farm_model.specs.Refusals.{count_reply, no_host, refusal_of}
use Rattle.farm_model.specs.Changes.{accepted, cells_for, cells_of_item, mode_for, mode_of_item, asked_for, judging_of_new, rejudging_of, by_judge}
use Rattle.farm_model.specs.Farm.{farm_step}
use Rattle.farm_model.specs.Replay.{if_counted, counted_by}
use Rattle.farm_laws.proofs.Cells.{cell_at, TellsOf, result_tells, entry_tells, count_reply_other, IsUnjudged, empty_unjudged, cells_append, or_none, cell_filled}
use Rattle.farm_laws.proofs.Each.{Each}
use Rattle.farm_laws.proofs.Kept.{lengths_of, modes_of, lengths_same, cells_same, changed_same, KeepsRows, same_rows, claim_keeps, fetch_keeps, renew_keeps, ask_keeps, drops_keep}

-- what one counted result gives the cell of a task
abbrev pub one_cell : RuleValue → Option (Task × Kind) → Task → Option Kind
one_cell rule None task = None
one_cell rule (Some p) task = cond (same_task p.0 task) (Some (remap_of rule p.1)) None

-- what an event with this outcome, which counted this result or none, did
pub record Steps (s : State) (p : State × Reply) (given : Option (Task × Kind)) : Type 0 where
  pub rule : p.0.judge.rule ≡ s.judge.rule
  -- the rows keep their lengths, and perhaps there are more of them
  pub more : List ℕ
  pub lengths : lengths_of p.0.judge.judgings ≡ lengths_of s.judge.judgings ++ more
  -- so do the modes of the judgings
  pub more_modes : List Mode
  pub modes : modes_of p.0.judge.judgings ≡ modes_of s.judge.judgings ++ more_modes
  -- cells keep what they hold, and the counted result fills its own
  pub cells : (j t : ℕ) → cell_at p.0.judge.judgings j t ≡ option_or (cell_at s.judge.judgings j t) (one_cell s.judge.rule given (task_of j t))
  -- a result counts only where its cell is there and empty
  pub fresh : (g : Task × Kind) → given ≡ Some g → cell_of s.judge.judgings g.0.judging g.0.test ≡ Some None

-- Events that count nothing

-- an outcome that counts nothing and leaves every row as it was
kept_steps : (s : State) (p : State × Reply) (given : Option (Task × Kind)) → given ≡ None → KeepsRows s.judge p.0.judge → Steps s p given
kept_steps s p given none kept = record {
  rule = kept.rule;
  more_modes = [];
  modes = kept.modes ∙ sym (append-nil (modes_of s.judge.judgings));
  more = [];
  lengths = lengths_same p.0.judge.judgings s.judge.judgings kept.rows ∙ sym (append-nil (lengths_of s.judge.judgings));
  cells = λ j t. cells_same p.0.judge.judgings s.judge.judgings j t kept.rows ∙ sym (ap (λ o. option_or (cell_at s.judge.judgings j t) (one_cell s.judge.rule o (task_of j t))) none ∙ or_none (cell_at s.judge.judgings j t));
  fresh = λ g e. let no : None ≡ Some g = sym none ∙ e in cc;
}

nothing_given : (r : Reply) → if_counted r None ≡ None
nothing_given reply.Counted = refl
nothing_given r = refl

pub not_counted : (r : Reply) (given : Option (Task × Kind)) → r ≢ reply.Counted → if_counted r given ≡ None
not_counted reply.Counted given n = absurd (n refl)
not_counted r given n = refl

-- what an event did that gives this result or none, where its outcome is p
abbrev StepOf : State → Option (Task × Kind) → State × Reply → Type 0
StepOf s given p = Steps s p (if_counted p.1 given)

-- an event that gives no result, where it is refused or not
quiet_steps : (s : State) (refusal : Option Reply) (done : State × Reply) → StepOf s None done → StepOf s None (refused_or s refusal done)
quiet_steps s None done a = a
quiet_steps s (Some x) done a = kept_steps s (s, x) (if_counted x None) (nothing_given x) (same_rows s.judge)

-- an event that gives no result, and leaves every row as it was
same_steps : (s : State) (refusal : Option Reply) (done : State × Reply) → KeepsRows s.judge done.0.judge → StepOf s None (refused_or s refusal done)
same_steps s refusal done kept = quiet_steps s refusal done (kept_steps s done (if_counted done.1 None) (nothing_given done.1) kept)

-- an event that adds judgings, none of whose tests is judged
added_steps : (s : State) (refusal : Option Reply) (done : State × Reply) (new : List Judging) → Each IsUnjudged new → done.0.judge ≡ add_judgings s.judge new → StepOf s None (refused_or s refusal done)
added_steps s refusal done new none e =
    quiet_steps s refusal done (record {
      rule = ap (λ (judge : JudgeState). judge.rule) e;
      more_modes = modes_of new;
      modes = ap (λ (judge : JudgeState). modes_of judge.judgings) e ∙ map-append (λ (judging : Judging). judging.mode) s.judge.judgings new;
      more = lengths_of new;
      lengths = ap (λ (judge : JudgeState). lengths_of judge.judgings) e ∙ map-append (λ (judging : Judging). length judging.row) s.judge.judgings new;
      cells = λ j t.
          ap (λ (judge : JudgeState). cell_at judge.judgings j t) e
          ∙ cells_append s.judge.judgings new none j t
          ∙ sym (ap (λ o. option_or (cell_at s.judge.judgings j t) (one_cell s.judge.rule o (task_of j t))) (nothing_given done.1) ∙ or_none (cell_at s.judge.judgings j t));
      fresh = λ g no. let absent : None ≡ Some g = sym (nothing_given done.1) ∙ no in cc;
    })

submit_steps : (s : State) (name : List ℕ) (class : Class) (broken : Bool) → StepOf s None (farm_step s (event.Submit name class broken))
submit_steps s name class broken =
    let e = event.Submit name class broken in
    let problem = number_or_0 (problem_number s.problems name) in
    added_steps s (refusal_of s e) (accepted s e) (judging_of_new s problem class broken ∷ [])
    (empty_unjudged class (cells_for s.problems problem broken) (mode_for s.problems problem) (asked_for s.problems problem), tt) refl

rejudgings_unjudged : (s : State) (list : List ℕ) → Each IsUnjudged (map (rejudging_of s) list)
rejudgings_unjudged s [] = tt
rejudgings_unjudged s (n ∷ list) = (empty_unjudged Low (cells_of_item s.problems (item_of s.submissions n)) (mode_of_item s.problems (item_of s.submissions n)) true, rejudgings_unjudged s list)

rejudge_steps : (s : State) (who list : List ℕ) → StepOf s None (farm_step s (event.Rejudge who list))
rejudge_steps s who list =
    let e = event.Rejudge who list in
    added_steps s (refusal_of s e) (accepted s e) (map (rejudging_of s) list) (rejudgings_unjudged s list) refl

-- Results

lengths_filled : (judgings : List Judging) (j t : ℕ) (kind : Kind) → lengths_of (with_result judgings j t kind) ≡ lengths_of judgings
lengths_filled judgings j t kind =
    changed_same (λ judging. length judging.row) (fill_cell t kind) (λ judging. length-set judging.row (t - 1) (Some kind)) judgings j (item_of judgings j) refl

modes_filled : (judgings : List Judging) (j t : ℕ) (kind : Kind) → modes_of (with_result judgings j t kind) ≡ modes_of judgings
modes_filled judgings j t kind =
    changed_same (λ judging. judging.mode) (fill_cell t kind) (λ judging. refl) judgings j (item_of judgings j) refl

-- an outcome of a result of this task and this kind
abbrev ResultStep : State → ℕ → ℕ → Kind → State × Reply → Type 0
ResultStep s j t kind p = StepOf s (Some (task_of j t, kind)) p

-- it counts
counted_steps : (s : State) (j t : ℕ) (kind : Kind) → cell_of s.judge.judgings j t ≡ Some None
    → ResultStep s j t kind (by_judge s (count_reply j t) (counted s.judge j t (remap_of s.judge.rule kind)))
counted_steps s j t kind empty = record {
  rule = refl;
  more_modes = [];
  modes = modes_filled s.judge.judgings j t (remap_of s.judge.rule kind) ∙ sym (append-nil (modes_of s.judge.judgings));
  more = [];
  lengths = lengths_filled s.judge.judgings j t (remap_of s.judge.rule kind) ∙ sym (append-nil (lengths_of s.judge.judgings));
  cells = cell_filled s.judge.judgings j t (remap_of s.judge.rule kind) empty;
  fresh = λ g e. let same : (task_of j t, kind) ≡ g = cc in ap (λ (p : Task × Kind). cell_of s.judge.judgings p.0.judging p.0.test) (sym same) ∙ empty;
}

-- it does not
refused_steps : (s : State) (j t : ℕ) (kind : Kind) (x : Reply) → x ≢ reply.Counted → ResultStep s j t kind (s, x)
refused_steps s j t kind x other =
    kept_steps s (s, x) (if_counted x (Some (task_of j t, kind))) (not_counted x (Some (task_of j t, kind)) other) (same_rows s.judge)

-- a result is refused for its host, then for its task, or it counts
result_steps : (s : State) (j t : ℕ) (kind : Kind) (host : Option Reply) (refusal : Option Count)
    → ((x : Reply) → host ≡ Some x → x ≢ reply.Counted) → TellsOf refusal (cell_of s.judge.judgings j t)
    → ResultStep s j t kind (refused_or s (first_of (host ∷ option_map (count_reply j t) refusal ∷ []))
    (by_judge s (count_reply j t) (refused_or s.judge refusal (counted s.judge j t (remap_of s.judge.rule kind)))))
result_steps s j t kind (Some x) refusal other tells = refused_steps s j t kind x (other x refl)
result_steps s j t kind None (Some c) other tells = refused_steps s j t kind (count_reply j t c) (count_reply_other j t c (tells.other c refl))
result_steps s j t kind None None other tells = counted_steps s j t kind (tells.empty refl)

no_host_other : (up : Bool) (host : List ℕ) (x : Reply) → unless up (reply.NoHost host) ≡ Some x → x ≢ reply.Counted
no_host_other false host x h = λ e. cc
no_host_other true host x h = cc

host_steps : (s : State) (host : List ℕ) (j t : ℕ) (kind : Kind) → ResultStep s j t kind (farm_step s (event.Result host j t kind))
host_steps s host j t kind =
    let given = remap_of s.judge.rule kind in
    result_steps s j t kind (no_host s.hosts host) (result_refusal s.judge.judgings j t given)
    (no_host_other (is_some (up_number s.hosts host)) host) (result_tells s.judge.judgings j t given)

first_alone : {R : Type 0} (o : Option R) → first_of (o ∷ []) ≡ o
first_alone None = refl
first_alone (Some x) = refl

entry_steps : (s : State) (j t : ℕ) (kind : Kind) → ResultStep s j t kind (farm_step s (event.Entry j t kind))
entry_steps s j t kind =
    let given = remap_of s.judge.rule kind in
    let refusal = entry_refusal s.judge.judgings j t given in
    subst (λ r. ResultStep s j t kind (refused_or s r (accepted s (event.Entry j t kind)))) (first_alone (option_map (count_reply j t) refusal))
    (result_steps s j t kind None refusal (λ x no. cc) (entry_tells s.judge.judgings j t given))

-- Whatever the event

-- the judge is as it was, or only its leases and its moment are not
quiet : (s : State) (e : Event) → KeepsRows s.judge (accepted s e).0.judge → StepOf s None (farm_step s e)
quiet s e kept = same_steps s (refusal_of s e) (accepted s e) kept

pub steps : (s : State) (e : Event) → Steps s (farm_step s e) (counted_by (e, (farm_step s e).1))
steps s (event.Problem who name tests) = quiet s (event.Problem who name tests) (same_rows s.judge)
steps s (event.Replace who name tests) = quiet s (event.Replace who name tests) (same_rows s.judge)
steps s (event.Host name) = quiet s (event.Host name) (same_rows s.judge)
steps s (event.Submit name class broken) = submit_steps s name class broken
steps s (event.Claim host) = quiet s (event.Claim host) (claim_keeps s.judge _)
steps s (event.Fetch host most) = quiet s (event.Fetch host most) (fetch_keeps s.judge _ most)
steps s (event.Result host j t kind) = host_steps s host j t kind
steps s (event.Entry j t kind) = entry_steps s j t kind
steps s (event.Renew host j t) = quiet s (event.Renew host j t) (renew_keeps s.judge _ j t)
steps s (event.Tick moment) = quiet s (event.Tick moment) (record { rule = refl; modes = refl; rows = refl })
steps s (event.Down host) = quiet s (event.Down host) (record { rule = refl; modes = refl; rows = refl })
steps s (event.Show j) = quiet s (event.Show j) (same_rows s.judge)
steps s (event.Owner j) = quiet s (event.Owner j) (same_rows s.judge)
steps s event.Board = quiet s event.Board (same_rows s.judge)
steps s (event.Rejudge who list) = rejudge_steps s who list
steps s (event.Matrix r) = quiet s (event.Matrix r) (same_rows s.judge)
steps s (event.Apply who r) = quiet s (event.Apply who r) (same_rows s.judge)
steps s (event.Cancel who r) = quiet s (event.Cancel who r) (drops_keep s.judge (new_judgings (members_in s.rejudgings r)))
steps s (event.Verify who j) = quiet s (event.Verify who j) (same_rows s.judge)
steps s (event.Ask who j) = quiet s (event.Ask who j) (ask_keeps s.judge j)
steps s event.Audit = quiet s event.Audit (same_rows s.judge)
