use Rattle.std.proofs.Common.{rules}
use Rattle.rv_machine.proofs.machine.Machine.place.Goals as goal

pub returns-then-not-fits-clause-placed : goal.returns-then-not-fits-clause-placed
returns-then-not-fits-clause-placed c = search rules
