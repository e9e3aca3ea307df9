use Rattle.std.proofs.Common.{rules}
use Rattle.farm_cli.proofs.hosting.fault_of.Goals as goal

pub returns-in-Some-clause-ends : goal.returns-in-Some-clause-ends
returns-in-Some-clause-ends c = search rules
