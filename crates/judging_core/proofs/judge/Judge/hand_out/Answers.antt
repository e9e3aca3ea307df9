use Rattle.std.proofs.Common.{ℕ, ◌≡◌, ◌≤◌, ◌<◌, ◌+◌, ◌∙◌, rules, refl, ap, sym, subst, arith, length, true, false}
use Rattle.farm_kinds.specs.declared.outcomes.Task.{Task}
use Rattle.farm_model.specs.declared.records.Lease.{Lease}
use Rattle.farm_model.specs.Leases.{held_count}
use Rattle.farm_model.specs.Judgings.{mark_handed}
use Rattle.task_tree.specs.Shown.{HasTask}
use Rattle.judging_core.specs.declared.judge.Judge.TheInside.{Inside}
use Rattle.judging_core.specs.JudgeLayout.{judge_value, IsJudgeLayout}
use Rattle.judging_core.specs.JudgeValue.{JudgeValue}
use Rattle.judging_core.specs.Holding.{IsOfHosts, IsHeldWell, AreOnEmptyCells}
use Rattle.judging_core.specs.JudgeShape.{judging_values, AreRuledBy, cells_in, reserved_of}
use Rattle.judging_core.specs.Listed.{is_open, widths, IsListed, HasRoom}
use Rattle.judging_core.specs.Batches.{is_open_task}
use Rattle.judging_core.proofs.Shown.{widths_shown}
use Rattle.judging_core.proofs.Listed.{handed_hidden, open_there, count_is}
use Rattle.judging_core.proofs.Wider.{ahead_kept}
use Rattle.judging_core.proofs.Held.{one_held, few_in_all, fewer_in_all}
use Rattle.judging_core.proofs.Cells.{open_cell, open_free, handed_cells}
use Rattle.judging_core.proofs.CellCount.{cells_changed, fewer_on_cells}
use Rattle.judging_core.proofs.Reported.{answers_kept}
use Rattle.judging_core.proofs.judge.Judge.hand_out.Goals as goal

-- what is asked of the judge's value holds of its fields
seen_open : (at : Inside) (judge : JudgeValue) (task : Task) → judge_value at ≡ judge → is_open_task judge.state task ≡ true → is_open at.rule (judging_values at.judgings.items) at.leases.leases task ≡ true
seen_open at judge task e o = subst (λ (v : JudgeValue). is_open_task v.state task ≡ true) (sym e) o

seen_few : (at : Inside) (judge : JudgeValue) (host : ℕ) → judge_value at ≡ judge → held_count judge.state.leases host < 64 → held_count at.leases.leases host < 64
seen_few at judge host e few = subst (λ (v : JudgeValue). held_count v.state.leases host < 64) (sym e) few

seen_known : (at : Inside) (judge : JudgeValue) (lease : Lease) → judge_value at ≡ judge → 1 ≤ lease.host → lease.host ≤ judge.hosts → IsOfHosts at.hosts lease
seen_known at judge lease e low high = (low, omega (arith, high, ap (λ (v : JudgeValue). v.hosts) e))

has_room : (at : Inside) (task : Task) → IsJudgeLayout at → is_open at.rule (judging_values at.judgings.items) at.leases.leases task ≡ true → HasTask at.tasks task
has_room at task h o =
    (open_there at.rule (judging_values at.judgings.items) at.leases.leases at.tasks task h.listed.wide o).1

pub hide_task-requires : goal.hide_task-requires
hide_task-requires c =
    let at = c.self.inside in
    has_room at c.args.task c.self.invariant (seen_open at c.args.self.now c.args.task c.self.view_is c.requires.open_)

pub mark_handed-requires-clause-known : goal.mark_handed-requires-clause-known
mark_handed-requires-clause-known c =
    let at = c.self.inside in
    let opened = seen_open at c.args.self.now c.args.task c.self.view_is c.requires.open_ in
    let known = (open_there at.rule (judging_values at.judgings.items) at.leases.leases at.tasks c.args.task c.self.invariant.listed.wide opened).0 in
    omega (arith, known, count_is at.judgings.items)

pub grant-requires-clause-spare : goal.grant-requires-clause-spare
grant-requires-clause-spare c = λ single.
    let at = c.self.inside in
    let lease : Lease = record { host = c.args.host; task = c.args.task; until = at.moment + at.lease } in
    let known = seen_known at c.args.self.now lease c.self.view_is c.requires.numbered c.requires.known in
    let opened = seen_open at c.args.self.now c.args.task c.self.view_is c.requires.open_ in
    let by_hosts = fewer_in_all at.hosts at.leases.leases lease c.self.invariant.held known (seen_few at c.args.self.now c.args.host c.self.view_is c.requires.few) in
    let empty = open_cell at.rule (judging_values at.judgings.items) at.leases.leases c.args.task opened in
    let free = open_free at.rule (judging_values at.judgings.items) at.leases.leases c.args.task opened in
    let by_cells = fewer_on_cells at.judgings.items at.leases.leases lease single c.self.invariant.cells free empty in
    omega (arith, by_hosts, by_cells, c.self.invariant.counted, c.self.invariant.roomy)

pub grant-requires-clause-few : goal.grant-requires-clause-few
grant-requires-clause-few c = omega (arith, few_in_all c.self.inside.hosts c.self.inside.leases.leases c.self.invariant.held)

pub invariant_of-self : goal.invariant_of-self
invariant_of-self c =
    let at = c.self.inside in
    let js = judging_values at.judgings.items in
    let task = c.args.task in
    let until = at.moment + at.lease in
    let lease : Lease = record { host = c.args.host; task = task; until = until } in
    let opened = seen_open at c.args.self.now task c.self.view_is c.requires.open_ in
    let known = seen_known at c.args.self.now lease c.self.view_is c.requires.numbered c.requires.known in
    let held : IsHeldWell at.hosts c.grant.new.self.leases = rw c.grant.ensures.leases (one_held at.hosts at.leases.leases lease c.self.invariant.held known (seen_few at c.args.self.now c.args.host c.self.view_is c.requires.few)) in
    let ruled : AreRuledBy at.rule c.mark_handed.new.judgings.items = c.mark_handed.ensures.ruled at.rule c.self.invariant.ruled in
    let cells : AreOnEmptyCells (judging_values c.mark_handed.new.judgings.items) c.grant.new.self.leases =
    rw (c.mark_handed.ensures.value, c.grant.ensures.leases) (handed_cells js at.leases.leases c.args.host until task c.self.invariant.cells (open_cell at.rule js at.leases.leases task opened)) in
    let listed : IsListed at.rule (judging_values c.mark_handed.new.judgings.items) c.grant.new.self.leases c.hide_task.new.self =
    rw (c.mark_handed.ensures.value, c.grant.ensures.leases, c.hide_task.ensures) (handed_hidden at.rule js at.leases.leases at.tasks task c.args.host until c.self.invariant.listed (has_room at task c.self.invariant opened)) in
    let counted : at.cells ≡ cells_in c.mark_handed.new.judgings.items = c.self.invariant.counted ∙ sym (cells_changed at.judgings.items c.mark_handed.new.judgings.items task.judging (mark_handed task.test) c.mark_handed.ensures.value (λ x. refl)) in
    let answered = answers_kept at.rule js (judging_values c.mark_handed.new.judgings.items) task.judging (mark_handed task.test) at.answers.items c.self.invariant.answered c.mark_handed.ensures.value (λ x. refl) in
    let same : widths c.hide_task.new.self ≡ widths at.tasks = ap widths c.hide_task.ensures ∙ widths_shown at.tasks task false in
    let ahead : HasRoom (length c.mark_handed.new.judgings.items) (reserved_of at.prepared.items) c.hide_task.new.self = ahead_kept (length at.judgings.items) (length c.mark_handed.new.judgings.items) (reserved_of at.prepared.items) at.tasks c.hide_task.new.self c.mark_handed.ensures.count same c.self.invariant.ahead in
    search rules

pub returns-clause-state : goal.returns-clause-state
returns-clause-state c = search rules
