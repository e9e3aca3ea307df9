use Rattle.std.proofs.Common.{rules}
use Rattle.farm_io.specs.MemoryDoors.{IsNew}
use Rattle.farm_io.proofs.FirstConn.{first_meets}
use Rattle.farm_io.proofs.memory_door.MemoryDoorDoor.accept.Goals as goal

pub invariant_of-self-2 : goal.invariant_of-self-2
invariant_of-self-2 c =
    (search rules, (first_meets IsNew _ _ _ _ c.next_of.result c.next_of.ensures.next c.self.invariant.1).0)

pub returns-clause-fresh : goal.returns-clause-fresh
returns-clause-fresh c = (first_meets IsNew _ _ _ _ c.next_of.result c.next_of.ensures.next c.self.invariant.1).1
