use Rattle.std.proofs.Common.{rules}
use Rattle.rv_machine.proofs.code.step_of.Goals as goal

pub returns-clause-small : goal.returns-clause-small
returns-clause-small c = search rules
