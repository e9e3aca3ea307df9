-- Lists of cells of one byte.
use Rattle.std.proofs.Common.{◌≡◌, ℕ, zero, suc, refl, ap, replicate, ◌∷◌, None}
use Rattle.lazy_stop.specs.declared.cells.Cell.TheVariants.{Empty}
use Rattle.lazy_stop.specs.CellKinds.{kinds_in}

pub all_empty : (n : ℕ) → kinds_in (replicate n Empty) ≡ replicate n None
all_empty zero = refl
all_empty (suc n) = ap (λ cells. None ∷ cells) (all_empty n)
