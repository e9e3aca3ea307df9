-- What workers share. The search for this is cut at the tree of the router, and at the feed and its readers.
use denote.RattleType.{RattleType}
use denote.Param.Send.{IsSend, IsSync, sendable}
use Rattle.std.proofs.Crossing.{crosses}
use Rattle.matchit.proofs.tree.Node.TheLaws.TheKnot as knot
use Rattle.matchit.specs.contracts.tree.Node as node
use Rattle.farm_board.specs.declared.trust.Admission.{Ghosts as AdmissionGhosts}
use Rattle.judge_feed.specs.declared.naming.Naming.{Ghosts as NamingGhosts}
use Rattle.judge_feed.proofs.Sending.{feed_send}
use Rattle.farm_api.specs.contracts.paths.Paths as paths
use Rattle.farm_api.proofs.Sending.{public_readers_send}
use Rattle.contest_server.specs.contracts.public.Public as public

-- The paths of the server

node_sync : IsSync node.the_row
node_sync = search (sendable, crosses, knot.crosses) depth 60 fits 100000

pub paths_sync : IsSync paths.the_row
paths_sync = search (sendable, crosses, node_sync) depth 60 fits 100000

-- What the public sees may be shared by threads.
pub public_sync : (A K : RattleType) (g : AdmissionGhosts A.Denot) (k : NamingGhosts K.Denot) → IsSend A → IsSync (public.the_row A K g k)
public_sync A K g k a = search (sendable, crosses, feed_send, public_readers_send) depth 60 fits 100000
