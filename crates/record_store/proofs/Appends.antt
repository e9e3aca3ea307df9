-- Records are added.
use Rattle.std.proofs.Common.{◌≡◌, inl, ℕ, ◌+◌, ◌-◌, List, [], ◌∷◌, ◌++◌, length, take, drop, arith, length-drop}
use Rattle.std.proofs.lemmas.List.{take_all}
use Rattle.record_store.specs.Model.{DiskTime, IsImage, AtEachMoment, overlaid}
use Rattle.record_store.specs.Held.{records_of, Torn, IsClosedAt, IsStaged, IsBeforeOrAfter}
use Rattle.record_store.proofs.Moments.{weaken, followed, leaves_now}
use Rattle.record_store.proofs.Prefixes.{closed_held, torn_behind}
use Rattle.record_store.proofs.Steps.{staged, gate_torn, gate_done}

pub all_behind : (xs : List ℕ) → take (length xs - 1) (drop 1 xs) ≡ drop 1 xs
all_behind xs = take_all (length xs - 1) (drop 1 xs) (omega (arith, length-drop 1 xs))

module _ (lines : List (List ℕ)) (end : ℕ) (line : List ℕ) (others : List (List ℕ)) (t t1 : DiskTime) (body : List ℕ) (is : IsClosedAt t.now.seen lines end) (first : AtEachMoment (Torn (end + 1) (length body) t.now.seen) t t1) where
  -- while the records are written behind the gate
  pub first_moments : AtEachMoment (IsBeforeOrAfter lines (line ∷ others)) t t1
  first_moments = weaken (Torn (end + 1) (length body) t.now.seen) (IsBeforeOrAfter lines (line ∷ others)) t t1 (λ c torn. inl (closed_held c lines end (torn_behind t.now.seen lines end (length body) c is torn))) first

  pub first_done : IsImage t1.now t1.now.seen → 1 ∷ body ≡ records_of (line ∷ others) ++ 0 ∷ [] → t1.now.seen ≡ overlaid t.now.seen (end + 1) body → IsStaged t1.now.seen lines end line others
  first_done seen body_is done =
      staged t.now.seen t1.now.seen lines end line others body body_is is
      (torn_behind t.now.seen lines end (length body) t1.now.seen is (leaves_now (Torn (end + 1) (length body) t.now.seen) t t1 first t1.now.seen seen)) done

  -- and while the gate is opened
  pub both_moments : (t2 : DiskTime) → IsStaged t1.now.seen lines end line others → AtEachMoment (Torn end 1 t1.now.seen) t1 t2 → AtEachMoment (IsBeforeOrAfter lines (line ∷ others)) t t2
  both_moments t2 stage second =
      followed (IsBeforeOrAfter lines (line ∷ others)) t t1 t2 first_moments
      (weaken (Torn end 1 t1.now.seen) (IsBeforeOrAfter lines (line ∷ others)) t1 t2 (λ c torn. gate_torn t1.now.seen lines end line others c stage torn) second)

  pub both_done : (t2 : DiskTime) → IsStaged t1.now.seen lines end line others → t2.now.seen ≡ overlaid t1.now.seen end (1 ∷ []) → IsClosedAt t2.now.seen (lines ++ line ∷ others) (end + length (records_of (line ∷ others)))
  both_done t2 stage done = gate_done t1.now.seen t2.now.seen lines end line others stage done
