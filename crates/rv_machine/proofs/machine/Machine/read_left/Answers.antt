use Rattle.std.proofs.Common.{rules}
use Rattle.rv_machine.proofs.machine.Machine.read_left.Goals as goal

pub returns-clause-gives : goal.returns-clause-gives
returns-clause-gives c = search rules
