-- Items that are numbered from 1, and what changing one of them makes.
use Rattle.std.proofs.Common.{ℕ, ◌≡◌, ◌-◌, List, Option, Some, None, refl, length, length-set}
use Rattle.farm_model.specs.Numbered.{item_of, with_change, change_item}

length_change : {X : Type 0} (xs : List X) (n : ℕ) (f : X → X) (o : Option X) → length (change_item xs n f o) ≡ length xs
length_change xs n f None = refl
length_change xs n f (Some x) = length-set xs (n - 1) (f x)

pub length_changed : {X : Type 0} (xs : List X) (n : ℕ) (f : X → X) → length (with_change xs n f) ≡ length xs
length_changed xs n f = length_change xs n f (item_of xs n)
