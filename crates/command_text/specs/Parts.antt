-- The parts of a list.
use Rattle.std.specs.Prelude.{ℕ, ◌+◌, List, [], ◌∷◌, ◌++◌, ◌≢◌, ⊤, length, Option, Some, None}
use Rattle.std.specs.Borrow.{Bor}
use Rattle.std.specs.Option.{option_map}
use Rattle.farm_model.specs.Numbers.{comma_parts}

-- a run of bytes other than a comma
abbrev pub IsPart : List ℕ → Type 0
IsPart [] = ⊤
IsPart (b ∷ bs) = (b ≢ 44) × IsPart bs

-- the parts of what stands behind a comma
abbrev pub parts_behind : Option (Bor (List ℕ)) → List (List ℕ)
parts_behind None = []
parts_behind (Some text) = comma_parts text.now

-- the bytes behind a comma, and the comma
abbrev pub size_behind : Option (Bor (List ℕ)) → ℕ
size_behind None = 0
size_behind (Some text) = length text.now + 1

-- how many numbers there are with n before them
abbrev pub total_count : ℕ → Option (List ℕ) → Option ℕ
total_count n others = option_map (λ ns. n + length ns) others

-- the numbers with these before them
abbrev pub appended : List ℕ → Option (List ℕ) → Option (List ℕ)
appended ns others = option_map (λ more. ns ++ more) others
