-- What a result does that is counted.
use Rattle.std.proofs.Common.{ℕ, ◌≡◌, ◌≢◌, ◌+◌, ◌-◌, List, [], ◌∷◌, Option, Some, None, true, false, cond, eqb, ◌&&◌, refl, sym, ap, ◌∙◌, subst, arith, length, map, set}
use Rattle.std.specs.Option.{option_map, option_or, option_and_then, unwrap_or, is_some}
use Rattle.std.proofs.Math.ListN.{length-set}
use Rattle.std.proofs.lemmas.Bool.{eqb-true}
use Rattle.farm_kinds.specs.declared.kinds.Kind.{Kind}
use Rattle.farm_kinds.specs.declared.outcomes.Task.{Task}
use Rattle.farm_kinds.specs.declared.events.Event.{Event}
use Rattle.farm_kinds.specs.declared.events.Reply.TheVariants as reply
use Rattle.farm_kinds.specs.RuleValue.{RuleValue}
use Rattle.farm_kinds.specs.Rules.{remap_of}
use Rattle.farm_model.specs.Numbered.{item_of, numbers_to}
use Rattle.farm_model.specs.Leases.{same_task}
use Rattle.farm_model.specs.Judgings.{Judging}
use Rattle.farm_model.specs.Rows.{Row}
use Rattle.farm_model.specs.State.{State, SettingsValue, start}
use Rattle.farm_model.specs.Farm.{farm_step}
use Rattle.farm_model.specs.Replay.{reply_to, given_by, if_counted, counted_by, counted_in, kind_for, times_counted}
use Rattle.farm_laws.specs.Laws.{reached, row_in, IsJudging, FillsCell, CountedFills}
use Rattle.farm_laws.proofs.Cells.{cell_at, HasEmpty, empty_there, fill_in, or_none}
use Rattle.farm_laws.proofs.Items.{numbered_from, there}
use Rattle.farm_laws.proofs.Steps.{Steps, steps}
use Rattle.farm_laws.proofs.Runs.{runs, one_more}
use Rattle.farm_laws.proofs.Handing.{counts_given}
use Rattle.farm_laws.proofs.RowCells.{item_cell, row_cells, row_length, row_same, reached_cell}

-- The first of its task

no_kind : (rule : RuleValue) (o : Option Kind) → option_map (remap_of rule) o ≡ None → o ≡ None
no_kind rule None h = refl
no_kind rule (Some k) h = cc

none_counted : (counted : List (Task × Kind)) (task : Task) → kind_for task counted ≡ None → times_counted counted task ≡ 0
none_counted [] task h = refl
none_counted (p ∷ ps) task h =
    elim (same_task p.0 task) as (λ b. same_task p.0 task ≡ b → cond b (Some p.1) (kind_for task ps) ≡ None → times_counted (p ∷ ps) task ≡ 0) [
      | true ↦ λ e f. cc
      | false ↦ λ e f.
          let rest = none_counted ps task f in
          let total = one_more p ps task ∙ ap (λ b. cond b 1 0 + times_counted ps task) e in
          omega (arith, rest, total)
    ] refl h

-- The cell

pub same_number : (n : ℕ) → eqb n n ≡ true
same_number n = grind arith

other_number : (n m : ℕ) → m ≢ n → eqb n m ≡ false
other_number n m other = elim (eqb n m) as (λ b. eqb n m ≡ b → b ≡ false) [ true ↦ λ e. absurd (other (sym (eqb-true n m e))) | false ↦ λ e. refl ] refl

-- the cells of a judging once a result of it was counted, by its row before
filled_cells : (s new : State) (task : Task) (kind : Kind) → Steps s (new, reply.Counted) (Some (task, kind)) → (e : HasEmpty s.judge.judgings task.judging task.test) → (t : ℕ)
    → cell_at new.judge.judgings task.judging t ≡ unwrap_or (item_of (set e.judging.row (task.test - 1) (Some (remap_of s.judge.rule kind))) t) None
filled_cells s new task kind b e t =
    let filled = Some (remap_of s.judge.rule kind) in
    b.cells task.judging t
    ∙ ap (λ here. option_or (cell_at s.judge.judgings task.judging t) (cond (here && eqb task.test t) filled None)) (same_number task.judging)
    ∙ ap (λ (o : Option Judging). option_or (unwrap_or (option_and_then (λ judging. item_of judging.row t) o) None) (cond (eqb task.test t) filled None)) e.there
    ∙ sym (fill_in e.judging.row task.test t (remap_of s.judge.rule kind) e.empty (eqb task.test t) refl)

-- the row of its judging then
filled_row : (s new : State) (task : Task) (kind : Kind) → Steps s (new, reply.Counted) (Some (task, kind)) → HasEmpty s.judge.judgings task.judging task.test
    → row_in new task.judging ≡ set (row_in s task.judging) (task.test - 1) (Some (remap_of s.judge.rule kind))
filled_row s new task kind b e =
    let filled = Some (remap_of s.judge.rule kind) in
    let old : row_in s task.judging ≡ e.judging.row = ap (λ (o : Option Judging). unwrap_or (option_map (λ judging. judging.row) o) []) e.there in
    let row = set e.judging.row (task.test - 1) filled in
    let kept = (row_length s new b.more task.judging (ap is_some e.there) b.lengths).1 in
    let long : length (row_in new task.judging) ≡ length row = kept ∙ ap length old ∙ sym (length-set e.judging.row (task.test - 1) filled) in
    sym (row_cells new task.judging)
    ∙ ap (λ (n : ℕ). map (cell_at new.judge.judgings task.judging) (numbers_to n)) long
    ∙ numbered_from row 1 (cell_at new.judge.judgings task.judging) (λ i x h. filled_cells s new task kind b e (1 + i) ∙ item_cell row i x h)
    ∙ ap (λ (cells : Row). set cells (task.test - 1) filled) (sym old)

-- the rows of the other judgings
other_rows : (s new : State) (task : Task) (kind : Kind) → Steps s (new, reply.Counted) (Some (task, kind)) → (j : ℕ) → j ≢ task.judging → IsJudging s j → row_in new j ≡ row_in s j
other_rows s new task kind b j other is = row_same s new b.more j is b.lengths (λ i lt.
    b.cells j (1 + i)
    ∙ ap (λ here. option_or (cell_at s.judge.judgings j (1 + i)) (cond (here && eqb task.test (1 + i)) (Some (remap_of s.judge.rule kind)) None)) (other_number task.judging j other)
    ∙ or_none (cell_at s.judge.judgings j (1 + i)))

fills_cell : (s new : State) (task : Task) (kind : Kind) → Steps s (new, reply.Counted) (Some (task, kind)) → HasEmpty s.judge.judgings task.judging task.test → FillsCell s new task (remap_of s.judge.rule kind)
fills_cell s new task kind b e = record { row = filled_row s new task kind b e; others = other_rows s new task kind b }

pub counted_fills : (settings : SettingsValue) (es : List Event) (e : Event) → CountedFills settings es e (farm_step (reached settings es) e).0 (λ r. reply_to (reached settings es) e ≡ r)
counted_fills settings es e counts =
    let s = reached settings es in
    let new = (farm_step s e).0 in
    let result = there (given_by e) (counts_given s e counts) in
    let p : Task × Kind = result.0 in
    let task = p.0 in
    let one : counted_by (e, reply_to s e) ≡ Some p = ap (λ r. if_counted r (given_by e)) counts ∙ result.1 in
    let step : Steps s (new, reply.Counted) (Some p) = subst (λ r. Steps s (new, r) (Some p)) counts (subst (λ (o : Option (Task × Kind)). Steps s (farm_step s e) o) one (steps s e)) in
    let empty = empty_there s.judge.judgings task.judging task.test (step.fresh p refl) in
    let none : kind_for task (counted_in (start settings) es) ≡ None =
    no_kind settings.rule (kind_for task (counted_in (start settings) es)) (sym (reached_cell settings es task.judging task.test) ∙ ap (λ o. unwrap_or o None) (step.fresh p refl)) in
    let old : row_in s task.judging ≡ empty.judging.row = ap (λ (o : Option Judging). unwrap_or (option_map (λ judging. judging.row) o) []) empty.there in
    record {
      task = task;
      kind = p.1;
      given = result.1;
      first = none_counted (counted_in (start settings) es) task none;
      empty = ap (λ (cells : Row). item_of cells task.test) old ∙ empty.empty;
      fills = subst (λ (rule : RuleValue). FillsCell s new task (remap_of rule p.1)) (runs (start settings) es).rule (fills_cell s new task p.1 step empty);
    }
