use Rattle.std.proofs.Common.{rules}
use Rattle.farm_io.proofs.sockets.TcpConnPeer.finish.Goals as goal

pub returns-in-Some-clause-writes : goal.returns-in-Some-clause-writes
returns-in-Some-clause-writes c = search rules
