-- Pieces that are put one behind the other.
use Rattle.std.proofs.Common.{ℕ, ◌+◌, ◌≤◌, List, ◌++◌, Option, sym, subst, arith, length, take}
use Rattle.std.specs.Io.KnownBytes.{Appends}
use Rattle.std.proofs.lemmas.List.{length-append}
use Rattle.std.proofs.Math.Seq.{take-append-add}
use Rattle.std.proofs.KnownBytes.{Appends-trans}

-- a prefix of the second piece behind the whole first one is a prefix of both
pub second_front : (a b c : Option (List ℕ)) (xs ys : List ℕ) → Appends a b xs → (n : ℕ) × (n ≤ length ys) × Appends b c (take n ys)
    → (n : ℕ) × (n ≤ length (xs ++ ys)) × Appends a c (take n (xs ++ ys))
second_front a b c xs ys h k =
    (length xs + k.0, omega (arith, k.1, length-append xs ys), subst (λ (z : List ℕ). Appends a c z) (sym (take-append-add xs ys k.0)) (Appends-trans a b c xs (take k.0 ys) h k.2))
