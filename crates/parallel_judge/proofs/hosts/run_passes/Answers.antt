use mathlib.Core.List.{List, [], ◌∷◌}
use Prim.Native.Nat.{ℕ}
use denote.Exit.{no}
use denote.RattleType.{RattleType}
use denote.Param.{param}
use denote.Param.Send.{IsSync, sendable, param_send, param_sync, arg_send, arg_sync, recorded_sync, struct_sync, shr_sync}
use denote.Struct.Declared as declared
use denote.Struct.Tuple.{TupleAt, type_at}
use Rattle.std.proofs.Crossing.{crosses}
use Rattle.std.specs.contracts.alloc.Global as heap
use Rattle.contest_folder.specs.contracts.roster.Roster as roster
use Rattle.farm_board.specs.contracts.trust.Proved as proved
use Rattle.farm_board.proofs.Sending.{pass_sends, board_sync}
use Rattle.parallel_judge.proofs.hosts.run_passes.Goals as goal

-- four things that a closure holds are shared together
four_sync : (name : List ℕ) (P Q R S : RattleType) → IsSync P → IsSync Q → IsSync R → IsSync S → IsSync (TupleAt name (P ∷ Q ∷ R ∷ S ∷ []))
four_sync name P Q R S p q r s =
    recorded_sync _ _ _ (type_at name (P ∷ Q ∷ R ∷ S ∷ [])).to_one (struct_sync (declared.shape (type_at name (P ∷ Q ∷ R ∷ S ∷ []))) (p, (q, (r, (s, tt)))))

heap_sync : IsSync heap.the_row
heap_sync = search (sendable, crosses) depth 60 fits 100000

roster_sync : IsSync roster.the_row
roster_sync = search (sendable, crosses) depth 60 fits 100000

proved_sync : (C : RattleType) → IsSync C → IsSync (proved.the_row C)
proved_sync C c = search (sendable, crosses) depth 60 fits 100000

pub map_vec-requires-send-J : goal.map_vec-requires-send-J
map_vec-requires-send-J g c κs within = param_send 1 _ (arg_send _ no _ (pass_sends (param 0 g.row.A) g.A.Admission c.type_bounds.send-A))

pub map_vec-requires-send-X : goal.map_vec-requires-send-X
map_vec-requires-send-X g c κs within = param_send 2 _ (arg_send _ no _ (pass_sends (param 0 g.row.A) g.A.Admission c.type_bounds.send-A))

pub map_vec-requires-sync-F : goal.map_vec-requires-sync-F
map_vec-requires-sync-F g c κs within =
    param_sync 4 _ (arg_sync _ no _ (four_sync _ _ _ _ _ (shr_sync _ _ _ c.type_bounds.sync-R) (shr_sync _ _ _ heap_sync)
    (shr_sync _ _ _ (board_sync _ (param 0 g.row.A) _ g.A.Admission (proved_sync _ (shr_sync _ _ _ roster_sync)) c.type_bounds.sync-A c.type_bounds.send-A))
    (shr_sync _ _ _ c.type_bounds.sync-G)))
