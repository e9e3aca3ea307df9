use mathlib.Core.List.{List, [], ◌∷◌}
use Prim.Native.Nat.{ℕ}
use denote.Exit.{no}
use denote.RattleType.{RattleType}
use denote.Param.{param}
use denote.Param.Send.{IsSend, IsSync, sendable, param_send, arg_send, recorded_send, struct_send, shr_send}
use denote.Struct.Declared as declared
use denote.Struct.Field.{bool-field}
use denote.Struct.Tuple.{TupleAt, type_at}
use Rattle.farm_board.specs.contracts.trust.Anyone as anyone
use Rattle.farm_board.proofs.Sending.{pass_sends, board_sync}
use Rattle.core_tests.proofs.farm_board_tests.play_in_two_threads.Goals as goal

-- what two things hold together
pair_send : (name : List ℕ) (Q R : RattleType) → IsSend Q → IsSend R → IsSend (TupleAt name (Q ∷ R ∷ []))
pair_send name Q R q r = recorded_send _ _ _ (type_at name (Q ∷ R ∷ [])).to_one (struct_send (declared.shape (type_at name (Q ∷ R ∷ []))) (q, (r, tt)))

-- what a closure holds goes to a thread with it
four_send : (name : List ℕ) (P Q R S : RattleType) → IsSend P → IsSend Q → IsSend R → IsSend S → IsSend (TupleAt name (P ∷ Q ∷ R ∷ S ∷ []))
four_send name P Q R S p q r s =
    recorded_send _ _ _ (type_at name (P ∷ Q ∷ R ∷ S ∷ [])).to_one (struct_send (declared.shape (type_at name (P ∷ Q ∷ R ∷ S ∷ []))) (p, (q, (r, (s, tt)))))

anyone_sync : IsSync anyone.the_row
anyone_sync = search sendable

flag_send : IsSend (bool-field).row
flag_send = search sendable

flag_sync : IsSync (bool-field).row
flag_sync = search sendable

pub join-one_saw-requires-send-F : goal.join-one_saw-requires-send-F
join-one_saw-requires-send-F g c κs within =
    param_send _ _ (arg_send _ no _ (four_send _ _ _ _ _ (shr_send _ _ _ c.type_bounds.sync-R)
    (shr_send _ _ _ (board_sync _ (param 1 g.row.A) _ g.A.Admission anyone_sync c.type_bounds.sync-A c.type_bounds.send-A)) (pass_sends (param 1 g.row.A) g.A.Admission c.type_bounds.send-A) (shr_send _ _ _ flag_sync)))

pub join-one_saw-requires-send-A : goal.join-one_saw-requires-send-A
join-one_saw-requires-send-A g c κs within = param_send _ _ (arg_send _ no _ (pair_send _ _ _ (pass_sends (param 1 g.row.A) g.A.Admission c.type_bounds.send-A) flag_send))
