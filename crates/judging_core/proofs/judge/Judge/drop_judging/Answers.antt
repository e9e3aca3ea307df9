use Rattle.std.proofs.Common.{ℕ, List, ◌≡◌, ◌≤◌, ◌∙◌, refl, sym, ap, rules, not, eqb, length, arith}
use Rattle.judging_core.specs.JudgeShape.{judging_values, AreWellKept, AreRuledBy, cells_in, reserved_of}
use Rattle.judging_core.specs.Listed.{widths, IsListed, HasRoom}
use Rattle.judging_core.proofs.Listed.{dropped_listed, count_is}
use Rattle.judging_core.proofs.Wider.{ahead_kept}
use Rattle.farm_model.specs.Leases.{without_judging}
use Rattle.farm_model.specs.Judgings.{mark_dropped}
use Rattle.judging_core.proofs.Shown.{widths_behind}
use Rattle.judging_core.specs.JudgeValue.{JudgeValue}
use Rattle.judging_core.specs.declared.judgings.KeptJudging.{KeptJudging}
use Rattle.judging_core.specs.Holding.{IsHeldWell, AreOnEmptyCells}
use Rattle.judging_core.proofs.Held.{some_held}
use Rattle.judging_core.proofs.Cells.{some_cells, dropped_cells}
use Rattle.judging_core.proofs.CellCount.{cells_changed}
use Rattle.judging_core.proofs.Reported.{answers_kept}
use Rattle.judging_core.proofs.judge.Judge.drop_judging.Goals as goal

within : (judgings : List KeptJudging) (judge : JudgeValue) (n : ℕ) → judging_values judgings ≡ judge.state.judgings → n ≤ length judge.state.judgings → n ≤ length judgings
within judgings judge n e l = omega (arith, l, count_is judgings, ap length e)

pub hide_behind-requires-clause-known : goal.hide_behind-requires-clause-known
hide_behind-requires-clause-known c =
    let at = c.self.inside in
    let known : c.args.judging ≤ length at.judgings.items = within at.judgings.items c.args.self.now c.args.judging (ap (λ (v : JudgeValue). v.state.judgings) c.self.view_is) c.requires.known in
    c.self.invariant.ahead.known c.args.judging (omega (arith, known)) (omega (arith, known, c.self.invariant.few))

pub invariant_of-self : goal.invariant_of-self
invariant_of-self c =
    let at = c.self.inside in
    let held : IsHeldWell at.hosts c.end_judging.new.self.leases = rw c.end_judging.ensures.leases (some_held at.hosts (λ x. not (eqb x.task.judging c.args.judging)) at.leases.leases c.self.invariant.held) in
    let rows : AreWellKept c.mark_dropped.new.judgings.items = c.mark_dropped.ensures.short c.self.invariant.rows in
    let ruled : AreRuledBy at.rule c.mark_dropped.new.judgings.items = c.mark_dropped.ensures.ruled at.rule c.self.invariant.ruled in
    let few : length c.mark_dropped.new.judgings.items ≤ 400000 = rw c.mark_dropped.ensures.count c.self.invariant.few in
    let listed : IsListed at.rule (judging_values c.mark_dropped.new.judgings.items) c.end_judging.new.self.leases c.hide_behind.new.self =
    rw (c.mark_dropped.ensures.value, c.end_judging.ensures.leases, c.hide_behind.ensures) (dropped_listed at.rule (judging_values at.judgings.items) at.leases.leases at.tasks c.args.judging c.self.invariant.listed) in
    let cells : AreOnEmptyCells (judging_values c.mark_dropped.new.judgings.items) c.end_judging.new.self.leases =
    rw (c.mark_dropped.ensures.value, c.end_judging.ensures.leases) (dropped_cells (judging_values at.judgings.items) (without_judging at.leases.leases c.args.judging) c.args.judging (some_cells (judging_values at.judgings.items) (λ x. not (eqb x.task.judging c.args.judging)) at.leases.leases c.self.invariant.cells)) in
    let counted : at.cells ≡ cells_in c.mark_dropped.new.judgings.items = c.self.invariant.counted ∙ sym (cells_changed at.judgings.items c.mark_dropped.new.judgings.items c.args.judging mark_dropped c.mark_dropped.ensures.value (λ x. refl)) in
    let answered = answers_kept at.rule (judging_values at.judgings.items) (judging_values c.mark_dropped.new.judgings.items) c.args.judging mark_dropped at.answers.items c.self.invariant.answered c.mark_dropped.ensures.value (λ x. refl) in
    let same : widths c.hide_behind.new.self ≡ widths at.tasks = ap widths c.hide_behind.ensures ∙ widths_behind at.tasks c.args.judging 0 in
    let ahead : HasRoom (length c.mark_dropped.new.judgings.items) (reserved_of at.prepared.items) c.hide_behind.new.self = ahead_kept (length at.judgings.items) (length c.mark_dropped.new.judgings.items) (reserved_of at.prepared.items) at.tasks c.hide_behind.new.self c.mark_dropped.ensures.count same c.self.invariant.ahead in
    search rules
