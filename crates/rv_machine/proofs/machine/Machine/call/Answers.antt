use Rattle.std.proofs.Common.{rules}
use Rattle.rv_machine.proofs.machine.Machine.call.Goals as goal

pub returns-in-93-clause-gives : goal.returns-in-93-clause-gives
returns-in-93-clause-gives c = search rules
