-- The digits that begin a text.
use Rattle.std.specs.Prelude.{ℕ, ◌≡◌, ◌+◌, ◌<◌, List, true, length, take}
use Rattle.std.specs.List.{list_all}
use Rattle.farm_model.specs.Numbers.{value_from, is_digit}

-- the number of some of them is over the limit
abbrev pub IsOver : ℕ → List ℕ → Type 0
IsOver limit text =
    (i : ℕ) × (i < length text) × (list_all is_digit (take (i + 1) text) ≡ true) × (limit < value_from 0 (take (i + 1) text))
