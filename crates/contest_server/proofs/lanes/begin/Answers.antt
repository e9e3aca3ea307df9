use mathlib.Core.List.{List, [], ◌∷◌}
use Prim.Native.Nat.{ℕ}
use denote.Exit.{no}
use denote.RattleType.{RattleType}
use denote.Param.{param}
use denote.Param.Send.{IsSend, IsSync, sendable, param_send, arg_send, recorded_send, struct_send, shr_send}
use denote.Struct.Declared as declared
use denote.Struct.Field.{usize-field}
use denote.Struct.Tuple.{TupleAt, type_at}
use Rattle.std.proofs.Crossing.{crosses}
use Rattle.std.specs.contracts.alloc.Global as heap
use Rattle.farm_board.specs.contracts.trust.Anyone as anyone
use Rattle.farm_board.proofs.Sending.{pass_sends, board_sync}
use Rattle.contest_server.specs.contracts.bell.Bell as bell
use Rattle.contest_server.specs.contracts.lanes.Served as served
use Rattle.contest_server.proofs.Sending.{paths_sync, public_sync}
use Rattle.contest_server.proofs.lanes.begin.Goals as goal

-- what a worker holds goes to a thread with it
all_send : (name : List ℕ) (O P Q R S T U V W X Y : RattleType) → IsSend O → IsSend P → IsSend Q → IsSend R → IsSend S → IsSend T → IsSend U → IsSend V → IsSend W → IsSend X → IsSend Y
    → IsSend (TupleAt name (O ∷ P ∷ Q ∷ R ∷ S ∷ T ∷ U ∷ V ∷ W ∷ X ∷ Y ∷ []))
all_send name O P Q R S T U V W X Y o p q r s t u v w x y =
    recorded_send _ _ _ (type_at name (O ∷ P ∷ Q ∷ R ∷ S ∷ T ∷ U ∷ V ∷ W ∷ X ∷ Y ∷ [])).to_one
    (struct_send (declared.shape (type_at name (O ∷ P ∷ Q ∷ R ∷ S ∷ T ∷ U ∷ V ∷ W ∷ X ∷ Y ∷ []))) (o, (p, (q, (r, (s, (t, (u, (v, (w, (x, (y, tt))))))))))))

heap_send : IsSend heap.the_row
heap_send = search (sendable, crosses) depth 60 fits 100000

bell_sync : IsSync bell.the_row
bell_sync = search (sendable, crosses) depth 60 fits 100000

place_send : IsSend (usize-field).row
place_send = search sendable

anyone_sync : IsSync anyone.the_row
anyone_sync = search sendable

served_send : (N P : RattleType) → IsSend N → IsSend P → IsSend (served.the_row N P)
served_send N P n p = search (sendable, crosses) depth 60 fits 100000

pub spawn_with-started-requires-send-F : goal.spawn_with-started-requires-send-F
spawn_with-started-requires-send-F g c κs within =
    param_send _ _ (arg_send _ no _ (all_send _ _ _ _ _ _ _ _ _ _ _ _ (shr_send _ _ _ c.type_bounds.sync-W) heap_send (shr_send _ _ _ paths_sync)
    (shr_send _ _ _ (board_sync _ (param 2 g.row.A) _ g.A.Admission anyone_sync c.type_bounds.sync-A c.type_bounds.send-A))
    (shr_send _ _ _ c.type_bounds.sync-C) (shr_send _ _ _ c.type_bounds.sync-Q) (shr_send _ _ _ (public_sync (param 2 g.row.A) (param 6 g.row.J) g.A.Admission g.J.Naming c.type_bounds.send-A)) (shr_send _ _ _ bell_sync) place_send (pass_sends (param 2 g.row.A) g.A.Admission c.type_bounds.send-A) c.type_bounds.send-N))

pub spawn_with-started-requires-send-T : goal.spawn_with-started-requires-send-T
spawn_with-started-requires-send-T g c κs within =
    param_send _ _ (arg_send _ no _ (served_send _ _ c.type_bounds.send-N (pass_sends (param 2 g.row.A) g.A.Admission c.type_bounds.send-A)))
