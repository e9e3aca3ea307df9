-- Numbers that rise.
use Rattle.std.proofs.Common.{ℕ, ◌≡◌, ◌<◌, List, [], ◌∷◌, ◌++◌, refl}
use Rattle.contest_server.specs.Beside.{AreAbove, last_or}

pub above_more : (n m : ℕ) (xs : List ℕ) → AreAbove n xs → last_or n xs < m → AreAbove n (xs ++ m ∷ [])
above_more n m [] h less = (less, tt)
above_more n m (x ∷ xs) h less = (h.0, above_more x m xs h.1 less)

pub last_more : (n m : ℕ) (xs : List ℕ) → last_or n (xs ++ m ∷ []) ≡ m
last_more n m [] = refl
last_more n m (x ∷ xs) = last_more x m xs
