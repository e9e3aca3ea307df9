-- Sums over lists, and how filling a cell lowers the number of empty ones.
use Rattle.std.proofs.Common.{ℕ, zero, suc, ◌≡◌, ◌+◌, List, [], ◌∷◌, Option, Some, None, ap, arith, cond, set, slice_get}
use Rattle.std.specs.Prelude.{is_none}
use Rattle.farm_kinds.specs.declared.kinds.Kind.{Kind}
use Rattle.farm_model.specs.Rows.{Row}
use Rattle.parallel_judge.specs.Working.{sum_of, empty_cells}

-- an item changes: the sum changes by as much
pub sum_set : {X : Type 0} (count : X → ℕ) (xs : List X) (i : ℕ) (x y : X) → slice_get xs i ≡ Some x → sum_of count (set xs i y) + count x ≡ sum_of count xs + count y
sum_set count [] i x y h = cc
sum_set count (z ∷ xs) zero x y h = let same : z ≡ x = cc in let counts = ap count same in omega (arith, counts)
sum_set count (z ∷ xs) (suc i) x y h = let below = sum_set count xs i x y h in omega (arith, below)

-- a cell is filled that was empty
pub one_less : (row : Row) (i : ℕ) (kind : Kind) → slice_get row i ≡ Some None → empty_cells (set row i (Some kind)) + 1 ≡ empty_cells row
one_less row i kind h =
    let sums : empty_cells (set row i (Some kind)) + 1 ≡ empty_cells row + 0 = sum_set (λ (cell : Option Kind). cond (is_none cell) 1 0) row i None (Some kind) h in
    omega (arith, sums)
