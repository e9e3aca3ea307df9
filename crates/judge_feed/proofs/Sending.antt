-- A feed may go to another thread.
use denote.RattleType.{RattleType}
use denote.Param.Send.{IsSend, sendable}
use Rattle.std.proofs.Crossing.{crosses}
use Rattle.atomic_table.proofs.shared.Seat.TheSendSync as seat
use Rattle.atomic_table.proofs.shared.Shared.TheSendSync as shared
use Rattle.atomic_table.proofs.send_lease.SendLease.TheSendSync as lease
use Rattle.left_right.proofs.part.Part.TheSendSync as part
use Rattle.left_right.proofs.part.Deed.TheSendSync as deed
use Rattle.farm_board.specs.declared.trust.Admission.{Ghosts}
use Rattle.farm_board.proofs.Sending.{pass_sends}
use Rattle.public_board.proofs.Sending.{rows_sync}
use Rattle.judge_feed.specs.declared.naming.Naming.{Ghosts as NamingGhosts}
use Rattle.judge_feed.specs.contracts.feed.Feed as feed

pub feed_send : (A K : RattleType) (g : Ghosts A.Denot) (k : NamingGhosts K.Denot) → IsSend A → IsSend (feed.the_row A K g k)
feed_send A K g k a =
    search (sendable, crosses, pass_sends, seat.the_send, shared.the_send, shared.the_sync, lease.the_send, lease.the_sync, part.the_send, deed.the_send, rows_sync) depth 60 fits 100000
