use Rattle.std.proofs.Common.{◌-◌}
use Rattle.rv_machine.specs.Running.{IsOnWay}
use Rattle.rv_machine.proofs.machine.Machine.finish.Given as goal

abbrev pub invariant-loop-ending : goal.invariant-loop-ending
invariant-loop-ending l = IsOnWay l.fn.self.state l.self.state

abbrev pub decreases-loop-ending : goal.decreases-loop-ending
decreases-loop-ending l = l.self.state.limits.instructions - l.self.state.cost
