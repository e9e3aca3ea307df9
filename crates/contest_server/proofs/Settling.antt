-- One element that keeps what is told of it.
use Rattle.std.proofs.Common.{◌≡◌, ℕ, List, [], ◌∷◌, map, slice_index_or, slice_set, suc, zero, refl, ap}

pub map_set_same : {X Y : Type 0} (f : X → Y) (xs : List X) (i : ℕ) (x d : X) → f x ≡ f (slice_index_or xs i d) → map f (slice_set xs i x) ≡ map f xs
map_set_same f [] i x d e = refl
map_set_same {X} {Y} f (y ∷ ys) zero x d e = ap (λ (z : Y). z ∷ map f ys) e
map_set_same {X} {Y} f (y ∷ ys) (suc i) x d e = ap (λ (zs : List Y). f y ∷ zs) (map_set_same f ys i x d e)
