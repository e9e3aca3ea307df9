-- The words of a line, read from its front one after the other.
use Rattle.std.specs.Prelude.{ℕ, List, [], ◌∷◌, Option, Some, None}
use Rattle.farm_kinds.specs.Names.{name_read}
use Rattle.farm_model.specs.Numbers.{number_of}

-- what was read of the first word, and the words behind it
abbrev pub with_rest : {A : Type 0} → List (List ℕ) → Option A → Option (A × List (List ℕ))
with_rest ws None = None
with_rest ws (Some a) = Some (a, ws)

abbrev pub first_name : List (List ℕ) → Option (List ℕ × List (List ℕ))
first_name [] = None
first_name (word ∷ ws) = with_rest ws (name_read word)

abbrev pub first_number : List (List ℕ) → Option (ℕ × List (List ℕ))
first_number [] = None
first_number (word ∷ ws) = with_rest ws (number_of word)
