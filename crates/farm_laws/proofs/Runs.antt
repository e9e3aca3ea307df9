-- What a run of events does to the judgings.
use Rattle.std.proofs.Common.{ℕ, ◌≡◌, ◌+◌, ◌≤◌, List, [], ◌∷◌, ◌++◌, Option, Some, None, Bool, true, false, cond, eqb, ◌&&◌, refl, sym, ap, ◌∙◌, arith, append_assoc}
use Rattle.std.specs.Option.{option_map, option_or, unwrap_or}
use Rattle.std.specs.List.{cons_option}
use Rattle.std.proofs.lemmas.List.{append-nil}
use Rattle.std.proofs.lemmas.List.Sums.{sum_by-cons}
use Rattle.std.proofs.lemmas.Bool.{eqb-true}
use Rattle.farm_kinds.specs.declared.kinds.Kind.{Kind}
use Rattle.farm_kinds.specs.declared.outcomes.Mode.{Mode}
use Rattle.farm_kinds.specs.declared.outcomes.Task.{Task}
use Rattle.farm_kinds.specs.declared.events.Event.{Event}
use Rattle.farm_kinds.specs.declared.events.Reply.{Reply}
use Rattle.farm_kinds.specs.RuleValue.{RuleValue}
use Rattle.farm_kinds.specs.Rules.{remap_of}
use Rattle.farm_model.specs.Leases.{same_task}
use Rattle.farm_model.specs.Judgings.{task_of}
use Rattle.farm_model.specs.State.{State}
use Rattle.farm_model.specs.Farm.{farm_step}
use Rattle.farm_model.specs.Replay.{state_after, reply_to, counted_by, counted_in, kind_for, cell_for, times_counted}
use Rattle.farm_laws.proofs.Cells.{cell_at, or_none}
use Rattle.farm_laws.proofs.Kept.{lengths_of, modes_of}
use Rattle.farm_laws.proofs.Steps.{Steps, one_cell, steps}

or_assoc : {X : Type 0} (a b c : Option X) → option_or (option_or a b) c ≡ option_or a (option_or b c)
or_assoc None b c = refl
or_assoc (Some x) b c = refl

-- Tasks

and_left : (a b : Bool) → (a && b) ≡ true → a ≡ true
and_left true b h = refl
and_left false b h = cc

and_right : (a b : Bool) → (a && b) ≡ true → b ≡ true
and_right true b h = h
and_right false b h = cc

pub tasks_same : (a b : Task) → same_task a b ≡ true → a ≡ b
tasks_same a b h =
    let judging : a.judging ≡ b.judging = eqb-true a.judging b.judging (and_left (eqb a.judging b.judging) (eqb a.test b.test) h) in
    let test : a.test ≡ b.test = eqb-true a.test b.test (and_right (eqb a.judging b.judging) (eqb a.test b.test) h) in
    ap (λ (j : ℕ). task_of j a.test) judging ∙ ap (λ (t : ℕ). task_of b.judging t) test

-- Counted results

-- the first counted result, before the others
first_given : (rule : RuleValue) (given : Option (Task × Kind)) (others : List (Task × Kind)) (task : Task)
    → cell_for rule (cons_option given others) task ≡ option_or (one_cell rule given task) (cell_for rule others task)
first_given rule None others task = refl
first_given rule (Some p) others task = elim (same_task p.0 task) as (λ b. option_map (remap_of rule) (cond b (Some p.1) (kind_for task others)) ≡ option_or (cond b (Some (remap_of rule p.1)) None) (cell_for rule others task)) [ true ↦ refl | false ↦ refl ]

-- What a run does

pub record Runs (s : State) (es : List Event) : Type 0 where
  pub rule : (state_after s es).judge.rule ≡ s.judge.rule
  pub more_modes : List Mode
  pub modes : modes_of (state_after s es).judge.judgings ≡ modes_of s.judge.judgings ++ more_modes
  pub more : List ℕ
  pub lengths : lengths_of (state_after s es).judge.judgings ≡ lengths_of s.judge.judgings ++ more
  -- cells keep what they hold, and others hold what was counted
  pub cells : (j t : ℕ) → cell_at (state_after s es).judge.judgings j t ≡ option_or (cell_at s.judge.judgings j t) (cell_for s.judge.rule (counted_in s es) (task_of j t))

runs_on : (s : State) (e : Event) (es : List Event) → Steps s (farm_step s e) (counted_by (e, reply_to s e)) → Runs (farm_step s e).0 es → Runs s (e ∷ es)
runs_on s e es a b =
    let given = counted_by (e, reply_to s e) in
    let others = counted_in (farm_step s e).0 es in
    record {
      rule = b.rule ∙ a.rule;
      more_modes = a.more_modes ++ b.more_modes;
      modes = b.modes ∙ ap (λ ms. ms ++ b.more_modes) a.modes ∙ append_assoc (modes_of s.judge.judgings) a.more_modes b.more_modes;
      more = a.more ++ b.more;
      lengths = b.lengths ∙ ap (λ ls. ls ++ b.more) a.lengths ∙ append_assoc (lengths_of s.judge.judgings) a.more b.more;
      cells = λ j t.
          b.cells j t
          ∙ ap (λ rule. option_or (cell_at (farm_step s e).0.judge.judgings j t) (cell_for rule others (task_of j t))) a.rule
          ∙ ap (λ o. option_or o (cell_for s.judge.rule others (task_of j t))) (a.cells j t)
          ∙ or_assoc (cell_at s.judge.judgings j t) (one_cell s.judge.rule given (task_of j t)) (cell_for s.judge.rule others (task_of j t))
          ∙ ap (λ o. option_or (cell_at s.judge.judgings j t) o) (sym (first_given s.judge.rule given others (task_of j t)));
    }

pub runs : (s : State) (es : List Event) → Runs s es
runs s [] = record {
  rule = refl;
  more_modes = [];
  modes = sym (append-nil (modes_of s.judge.judgings));
  more = [];
  lengths = sym (append-nil (lengths_of s.judge.judgings));
  cells = λ j t. sym (or_none (cell_at s.judge.judgings j t));
}
runs s (e ∷ es) = runs_on s e es (steps s e) (runs (farm_step s e).0 es)

-- How often a result counts

-- a filled cell takes no more results, and an empty one at most one
pub record Counts (s : State) (es : List Event) (task : Task) : Type 0 where
  pub none : (k : Kind) → cell_at s.judge.judgings task.judging task.test ≡ Some k → times_counted (counted_in s es) task ≡ 0
  pub once : times_counted (counted_in s es) task ≤ 1

filled_after : (s : State) (p : State × Reply) (given : Option (Task × Kind)) (task : Task) (k : Kind) → Steps s p given → cell_at s.judge.judgings task.judging task.test ≡ Some k → cell_at p.0.judge.judgings task.judging task.test ≡ Some k
filled_after s p given task k a h = a.cells task.judging task.test ∙ ap (λ o. option_or o (one_cell s.judge.rule given (task_of task.judging task.test))) h

pub one_more : (p : Task × Kind) (others : List (Task × Kind)) (task : Task) → times_counted (p ∷ others) task ≡ cond (same_task p.0 task) 1 0 + times_counted others task
one_more p others task = sum_by-cons (λ q. cond (same_task q.0 task) 1 0) p others

-- a result that counts fills the cell of its task, which was empty
fills : (s : State) (new : State × Reply) (p : Task × Kind) (task : Task) → Steps s new (Some p) → same_task p.0 task ≡ true
    → (cell_at s.judge.judgings task.judging task.test ≡ None) × (cell_at new.0.judge.judgings task.judging task.test ≡ Some (remap_of s.judge.rule p.1))
fills s new p task a h =
    let empty : cell_at s.judge.judgings task.judging task.test ≡ None = ap (λ (t : Task). cell_at s.judge.judgings t.judging t.test) (sym (tasks_same p.0 task h)) ∙ ap (λ o. unwrap_or o None) (a.fresh p refl) in
    let given : one_cell s.judge.rule (Some p) task ≡ Some (remap_of s.judge.rule p.1) = ap (λ b. cond b (Some (remap_of s.judge.rule p.1)) None) h in
    (empty, a.cells task.judging task.test ∙ ap (λ o. option_or o (one_cell s.judge.rule (Some p) task)) empty ∙ given)

counts_given : (s : State) (e : Event) (es : List Event) (task : Task) (p : Task × Kind) → Steps s (farm_step s e) (Some p)
    → Counts (farm_step s e).0 es task → (b : Bool) → same_task p.0 task ≡ b → (times_counted (p ∷ counted_in (farm_step s e).0 es) task ≤ 1)
    × ((k : Kind) → cell_at s.judge.judgings task.judging task.test ≡ Some k → times_counted (p ∷ counted_in (farm_step s e).0 es) task ≡ 0)
counts_given s e es task p a c true h =
    let f = fills s (farm_step s e) p task a h in
    let total = one_more p (counted_in (farm_step s e).0 es) task ∙ ap (λ b. cond b 1 0 + times_counted (counted_in (farm_step s e).0 es) task) h in
    let none = c.none (remap_of s.judge.rule p.1) f.1 in
    (omega (arith, total, none), λ k filled. let no : None ≡ Some k = sym f.0 ∙ filled in cc)
counts_given s e es task p a c false h =
    let total = one_more p (counted_in (farm_step s e).0 es) task ∙ ap (λ b. cond b 1 0 + times_counted (counted_in (farm_step s e).0 es) task) h in
    let once = c.once in
    (omega (arith, total, once), λ k filled. let none = c.none k (filled_after s (farm_step s e) (Some p) task k a filled) in omega (arith, total, none))

counts_on : (s : State) (e : Event) (es : List Event) (task : Task) (given : Option (Task × Kind)) → Steps s (farm_step s e) given
    → Counts (farm_step s e).0 es task → (times_counted (cons_option given (counted_in (farm_step s e).0 es)) task ≤ 1)
    × ((k : Kind) → cell_at s.judge.judgings task.judging task.test ≡ Some k → times_counted (cons_option given (counted_in (farm_step s e).0 es)) task ≡ 0)
counts_on s e es task None a b = (b.once, λ k h. b.none k (filled_after s (farm_step s e) None task k a h))
counts_on s e es task (Some p) a b = counts_given s e es task p a b (same_task p.0 task) refl

pub counts : (s : State) (es : List Event) (task : Task) → Counts s es task
counts s [] task = record { none = λ k h. refl; once = omega arith }
counts s (e ∷ es) task =
    let both = counts_on s e es task (counted_by (e, reply_to s e)) (steps s e) (counts (farm_step s e).0 es task) in
    record { none = both.1; once = both.0 }
