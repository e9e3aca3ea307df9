-- Readers may go to other threads.
use denote.RattleType.{RattleType}
use denote.Param.Send.{IsSend, IsSync, sendable}
use Rattle.std.proofs.Crossing.{crosses}
use Rattle.atomic_table.proofs.shared.Seat.TheSendSync as seat
use Rattle.atomic_table.proofs.shared.Shared.TheSendSync as shared
use Rattle.atomic_table.proofs.send_lease.SendLease.TheSendSync as lease
use Rattle.left_right.proofs.part.Part.TheSendSync as part
use Rattle.std.specs.declared.clone.Clone.{Ghosts as CloneGhosts}
use Rattle.public_board.specs.declared.row.Row.{Ghosts as RowGhosts}
use Rattle.public_board.specs.declared.rule.Publication.{Ghosts}
use Rattle.public_board.specs.contracts.rows.Rows as rows
use Rattle.public_board.specs.contracts.readers.Reader as reader
use Rattle.public_board.specs.contracts.readers.Readers as readers

pub rows_sync : (R : RattleType) → IsSync R → IsSync (rows.the_row R)
rows_sync R s = search (sendable, crosses) depth 60 fits 100000

pub reader_send : (R K : RattleType) (r : RowGhosts R.Denot) (c : CloneGhosts R.Denot) (k : Ghosts K.Denot R.Denot) → IsSend R → IsSync R → IsSend (reader.the_row R K r c k)
reader_send R K r c k s y =
    search (sendable, crosses, seat.the_send, shared.the_send, shared.the_sync, lease.the_send, lease.the_sync, part.the_send, rows_sync) depth 60 fits 100000

pub readers_send : (R K : RattleType) (r : RowGhosts R.Denot) (c : CloneGhosts R.Denot) (k : Ghosts K.Denot R.Denot) → IsSend R → IsSync R → IsSend (readers.the_row R K r c k)
readers_send R K r c k s y = search (sendable, crosses, reader_send) depth 60 fits 100000
