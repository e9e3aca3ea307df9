use Rattle.std.proofs.Common.{rules}
use Rattle.farm_io.proofs.tcp_door.TcpDoorDoor.listen.Goals as goal

pub returns-in-Ok-clause-listens : goal.returns-in-Ok-clause-listens
returns-in-Ok-clause-listens c = search rules
