use Rattle.std.proofs.Common.{◌-◌, ◌<◌, None, Some, refl, sym, ◌∙◌, arith}
use Rattle.rv_machine.specs.Inputs.{inputs_of}
use Rattle.rv_machine.specs.Storage.{hart_of}
use Rattle.rv_machine.specs.Running.{Pauses, moved}
use Rattle.rv_machine.specs.Stepping.{State}
use Rattle.rv_machine.proofs.Finishing.{time_finish, entered_finish}
use Rattle.rv_machine.proofs.Pausing.{resumed}
use Rattle.rv_machine.proofs.machine.Machine.run_to_stop.Goals as goal

pub returns-then-self-limit-clause-stops : goal.returns-then-self-limit-clause-stops
returns-then-self-limit-clause-stops c =
    let m = c.loop-self.self-inside in
    let now : State = record { limits = m.limits; hart = hart_of m.processor m.pc; inputs = inputs_of m.files; output = m.output.items; cost = m.cost } in
    c.loop-self.invariant.on_way.same ∙ time_finish now (omega arith)

pub returns-in-Err-clause-stops : goal.returns-in-Err-clause-stops
returns-in-Err-clause-stops c =
    let m = c.loop-self.self-inside in
    let now : State = record { limits = m.limits; hart = hart_of m.processor m.pc; inputs = inputs_of m.files; output = m.output.items; cost = m.cost } in
    entered_finish c.args.self.now.state now c.fetch_page.new.processor c.in-Err.stop c.loop-self.invariant.on_way.same (omega arith) c.in-Err.ensures.enters

pub returns-in-Some : goal.returns-in-Some
returns-in-Some c =
    let m = c.loop-self.self-inside in
    let now : State = record { limits = m.limits; hart = hart_of m.processor m.pc; inputs = inputs_of m.files; output = m.output.items; cost = m.cost } in
    let entered : State = record now { hart = hart_of c.fetch_page.new.processor m.pc } in
    let pauses : Pauses (Some c.in-Some.stop) entered (moved entered c.run_in_page-pause.new.processor c.run_in_page-pause.result.pc (c.self.inside.limits.instructions - c.run_in_page-pause.result.left)) =
    rw c.in-Some.is at (c.run_in_page-pause.ensures.pauses entered (record { has_hart = refl; has_cost = refl; has_limit = sym c.loop-self.invariant.limit })) in
    let whole = resumed c.args.self.now.state now (moved entered c.run_in_page-pause.new.processor c.run_in_page-pause.result.pc (c.self.inside.limits.instructions - c.run_in_page-pause.result.left)) (hart_of c.fetch_page.new.processor m.pc)
    (Some c.in-Some.stop) c.loop-self.invariant.on_way (omega arith) c.in-Ok.ensures.enters pauses in
    record { stops = whole.0; later = whole.1; time = whole.2 }

pub loop-self-smaller : goal.loop-self-smaller
loop-self-smaller c =
    let m = c.loop-self.self-inside in
    let now : State = record { limits = m.limits; hart = hart_of m.processor m.pc; inputs = inputs_of m.files; output = m.output.items; cost = m.cost } in
    let entered : State = record now { hart = hart_of c.fetch_page.new.processor m.pc } in
    let pauses : Pauses None entered (moved entered c.run_in_page-pause.new.processor c.run_in_page-pause.result.pc (c.self.inside.limits.instructions - c.run_in_page-pause.result.left)) =
    rw c.in-None.is at (c.run_in_page-pause.ensures.pauses entered (record { has_hart = refl; has_cost = refl; has_limit = sym c.loop-self.invariant.limit })) in
    let more : m.cost < (c.self.inside.limits.instructions - c.run_in_page-pause.result.left) = pauses.1 in
    omega arith

pub loop-self-preserved : goal.loop-self-preserved
loop-self-preserved c =
    let m = c.loop-self.self-inside in
    let now : State = record { limits = m.limits; hart = hart_of m.processor m.pc; inputs = inputs_of m.files; output = m.output.items; cost = m.cost } in
    let entered : State = record now { hart = hart_of c.fetch_page.new.processor m.pc } in
    let pauses : Pauses None entered (moved entered c.run_in_page-pause.new.processor c.run_in_page-pause.result.pc (c.self.inside.limits.instructions - c.run_in_page-pause.result.left)) =
    rw c.in-None.is at (c.run_in_page-pause.ensures.pauses entered (record { has_hart = refl; has_cost = refl; has_limit = sym c.loop-self.invariant.limit })) in
    let whole = resumed c.args.self.now.state now (moved entered c.run_in_page-pause.new.processor c.run_in_page-pause.result.pc (c.self.inside.limits.instructions - c.run_in_page-pause.result.left)) (hart_of c.fetch_page.new.processor m.pc)
    None c.loop-self.invariant.on_way (omega arith) c.in-Ok.ensures.enters pauses in
    record { limit = c.loop-self.invariant.limit; on_way = whole.0; aligned = c.run_in_page-pause.ensures.aligned; fits = c.loop-self.invariant.fits; code = c.forget_stale.ensures c.run_in_page-pause.new.processor.memory c.run_in_page-pause.ensures.code }

pub invariant_of-self-in-Some : goal.invariant_of-self-in-Some
invariant_of-self-in-Some c = (c.run_in_page-pause.ensures.aligned, c.loop-self.invariant.fits, c.forget_stale.ensures c.run_in_page-pause.new.processor.memory c.run_in_page-pause.ensures.code)
