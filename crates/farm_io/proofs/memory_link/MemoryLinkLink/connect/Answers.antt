use Rattle.std.proofs.Common.{rules}
use Rattle.farm_io.specs.MemoryDoors.{IsNew}
use Rattle.farm_io.specs.declared.door.Accepted.TheVariants as came
use Rattle.farm_io.proofs.FirstConn.{first_meets}
use Rattle.farm_io.proofs.memory_link.MemoryLinkLink.connect.Goals as goal

pub invariant_of-self-in-Conn : goal.invariant_of-self-in-Conn
invariant_of-self-in-Conn c =
    (search rules, (first_meets IsNew _ _ _ _ (came.Conn c.in-Conn.conn) c.in-Conn.ensures.next c.self.invariant.1).0)

pub returns-in-Conn-clause-fresh : goal.returns-in-Conn-clause-fresh
returns-in-Conn-clause-fresh c = (first_meets IsNew _ _ _ _ (came.Conn c.in-Conn.conn) c.in-Conn.ensures.next c.self.invariant.1).1
