use Rattle.std.proofs.Common.{rules}
use Rattle.farm_io.proofs.memory_door.next_of.Goals as goal

pub returns-in-Some-clause-next : goal.returns-in-Some-clause-next
returns-in-Some-clause-next c = search rules
