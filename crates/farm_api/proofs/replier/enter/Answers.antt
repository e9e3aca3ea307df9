use Rattle.std.proofs.Common.{arith}
use Rattle.farm_api.proofs.Enterings.{begun_event, entered_all, not_no_memory, begun_tick, begun_down}
use Rattle.farm_api.proofs.replier.enter.Goals as goal

pub returns-then-is_no_memory-clause-enters : goal.returns-then-is_no_memory-clause-enters
returns-then-is_no_memory-clause-enters g c =
    begun_event g.A.Replier.steps c.args.ticks c.args.moment c.args.event.now _ _ _ c.step-reply.result c.enter_tick.result c.enter_tick.ensures.enters c.step-reply.ensures.steps

pub returns-clause-enters : goal.returns-clause-enters
returns-clause-enters g c =
    entered_all g.A.Replier.steps c.args.ticks c.args.moment c.args.event.now _ _ _ _ c.step-reply.result c.in_ok-enter_tick.field-0 c.in_ok-enter_down.field-0 c.in_ok-enter_tick.ensures.enters c.step-reply.ensures.steps
    (not_no_memory c.step-reply.result (search c.is_no_memory.ensures)) c.in_ok-enter_down.ensures.enters

pub returns-in_err-enter_tick-clause-enters : goal.returns-in_err-enter_tick-clause-enters
returns-in_err-enter_tick-clause-enters g c = grind (arith, begun_tick, begun_down)

pub returns-in_err-enter_down-clause-enters : goal.returns-in_err-enter_down-clause-enters
returns-in_err-enter_down-clause-enters g c = grind (arith, begun_tick, begun_down)
