use Rattle.std.proofs.Common.{◌∙◌, sym}
use Rattle.judging_core.specs.JudgeShape.{judging_values}
use Rattle.judging_core.proofs.Shown.{widths_shown}
use Rattle.judging_core.proofs.Listed.{shown_if_open, kept_if_closed, open_there}
use Rattle.judging_core.proofs.listing.show_open.Goals as goal

pub returns-then-not-is_open-clause-shown : goal.returns-then-not-is_open-clause-shown
returns-then-not-is_open-clause-shown c = λ rule ruled wide.
    kept_if_closed rule (judging_values c.args.judgings.now) c.args.leases.now.leases c.args.tasks.now c.args.task
    (λ o. let is = c.is_open.ensures.open_ rule ruled in let none = c.if-not-is_open.true in cc)

pub returns-then-has_task-clause-shown : goal.returns-then-has_task-clause-shown
returns-then-has_task-clause-shown c = λ rule ruled wide.
    rw c.show_task.ensures (shown_if_open rule (judging_values c.args.judgings.now) c.args.leases.now.leases c.args.tasks.now c.args.task
    (c.has_task.ensures.0 c.if-has_task.true) (sym (c.is_open.ensures.open_ rule ruled) ∙ c.if-not-is_open.false))

pub returns-else-has_task-clause-shown : goal.returns-else-has_task-clause-shown
returns-else-has_task-clause-shown c = λ rule ruled wide.
    kept_if_closed rule (judging_values c.args.judgings.now) c.args.leases.now.leases c.args.tasks.now c.args.task
    (λ o. let there = (open_there rule (judging_values c.args.judgings.now) c.args.leases.now.leases c.args.tasks.now c.args.task wide o).1 in
    let yes = c.has_task.ensures.1 there in let none = c.if-has_task.false in cc)

pub returns-then-has_task-clause-widths : goal.returns-then-has_task-clause-widths
returns-then-has_task-clause-widths c = rw c.show_task.ensures (widths_shown c.args.tasks.now c.args.task _)
