use Rattle.std.proofs.Common.{◌≡◌, ◌-◌, ◌%◌, ◌≤◌, length}
use Rattle.rv_machine.specs.Decoded.{IsCode}
use Rattle.rv_machine.specs.Inputs.{inputs_of}
use Rattle.rv_machine.specs.Storage.{hart_of}
use Rattle.rv_machine.specs.Stepping.{State}
use Rattle.rv_machine.specs.Running.{IsOnWay}
use Rattle.rv_machine.proofs.machine.Machine.run_to_stop.Given as goal

abbrev pub invariant-loop-self : goal.invariant-loop-self
invariant-loop-self l =
    let m = l.self-inside in
    let now : State = record { limits = m.limits; hart = hart_of m.processor m.pc; inputs = inputs_of m.files; output = m.output.items; cost = m.cost } in
    record { limit : l.limit ≡ m.limits.instructions; on_way : IsOnWay l.fn.self.state now; aligned : m.pc % 4 ≡ 0; fits : length m.output.items ≤ m.limits.output; code : IsCode m.processor.memory m.code }

abbrev pub decreases-loop-self : goal.decreases-loop-self
decreases-loop-self l = l.limit - l.self-inside.cost
