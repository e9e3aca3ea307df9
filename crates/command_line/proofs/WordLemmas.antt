-- The words past the first.
use Rattle.std.proofs.Common.{◌≡◌, ◌≤◌, ◌-◌, ◌&&◌, Bool, List, [], ◌∷◌, map, take, drop, length, refl, ap, ◌∙◌, arith}
use Rattle.std.specs.List.{list_all}
use Rattle.std.proofs.lemmas.List.{take_all}

all_mapped : {X Y : Type 0} (p : Y → Bool) (f : X → Y) (xs : List X) → list_all (λ x. p (f x)) xs ≡ list_all p (map f xs)
all_mapped p f [] = refl
all_mapped p f (x ∷ xs) = ap (λ b. p (f x) && b) (all_mapped p f xs)

-- a test of each mapped element past the first
pub all_past_first : {X Y : Type 0} (p : Y → Bool) (f : X → Y) (xs : List X)
    → list_all (λ x. p (f x)) (take (length xs - 1) (drop 1 xs)) ≡ list_all p (drop 1 (map f xs))
all_past_first p f [] = refl
all_past_first p f (x ∷ xs) =
    let all : length xs ≤ length (x ∷ xs) - 1 = omega arith in
    ap (list_all (λ y. p (f y))) (take_all (length (x ∷ xs) - 1) xs all) ∙ all_mapped p f xs
