-- Readers of what the public sees may go to other threads.
use denote.RattleType.{RattleType}
use denote.Param.Send.{IsSend, sendable}
use Rattle.std.proofs.Crossing.{crosses}
use Rattle.public_board.proofs.Sending.{reader_send, readers_send}
use Rattle.judge_feed.specs.declared.naming.Naming.{Ghosts as NamingGhosts}
use Rattle.farm_api.specs.contracts.public_reader.PublicReader as reader
use Rattle.farm_api.specs.contracts.public_reader.PublicReaders as readers

public_reader_send : (K : RattleType) (k : NamingGhosts K.Denot) → IsSend (reader.the_row K k)
public_reader_send K k = search (sendable, crosses, reader_send) depth 60 fits 100000

pub public_readers_send : (K : RattleType) (k : NamingGhosts K.Denot) → IsSend (readers.the_row K k)
public_readers_send K k = search (sendable, crosses, readers_send, public_reader_send) depth 60 fits 100000
