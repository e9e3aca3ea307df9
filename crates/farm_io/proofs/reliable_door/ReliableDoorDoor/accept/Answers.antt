use Rattle.std.proofs.Common.{rules}
use Rattle.farm_io.specs.MemoryDoors.{IsReliableNew}
use Rattle.farm_io.proofs.FirstConn.{first_meets}
use Rattle.farm_io.proofs.reliable_door.ReliableDoorDoor.accept.Goals as goal

pub invariant_of-self : goal.invariant_of-self
invariant_of-self c =
    (search rules, (first_meets IsReliableNew _ _ _ _ c.next_of.result c.next_of.ensures.next c.self.invariant.1).0)

pub returns-clause-fresh : goal.returns-clause-fresh
returns-clause-fresh c =
    (first_meets IsReliableNew _ _ _ _ c.next_of.result c.next_of.ensures.next c.self.invariant.1).1
