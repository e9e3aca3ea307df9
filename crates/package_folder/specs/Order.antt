-- Texts in the order of their bytes, each once.
use Rattle.std.specs.Prelude.{ℕ, List, [], ◌∷◌}
use Rattle.std.specs.Ordering.{nat_cmp}
use Rattle.std.specs.Cmp.Lexicographic.{slice_cmp}
use Rattle.std.specs.List.Sorted.{IsStrictlySortedBy}
use Rattle.std.specs.declared.cmp.Ordering.{Ordering}
use Rattle.std.specs.declared.cmp.Ordering.TheVariants.{Less, Equal, Greater}

abbrev pub compare_bytes : List ℕ → List ℕ → Ordering
compare_bytes = slice_cmp nat_cmp

-- texts in that order, each once
abbrev pub IsRising : List (List ℕ) → Type 0
IsRising texts = IsStrictlySortedBy compare_bytes texts

-- the text before the first of the others, or behind it, where `rest` is the others with it
abbrev pub put_at : Ordering → List ℕ → List ℕ → List (List ℕ) → List (List ℕ) → List (List ℕ)
put_at Less text first others rest = text ∷ first ∷ others
put_at Equal text first others rest = first ∷ others
put_at Greater text first others rest = first ∷ rest

abbrev pub put_in : List ℕ → List (List ℕ) → List (List ℕ)
put_in text [] = text ∷ []
put_in text (first ∷ others) = put_at (compare_bytes text first) text first others (put_in text others)

abbrev pub in_order : List (List ℕ) → List (List ℕ)
in_order [] = []
in_order (text ∷ texts) = put_in text (in_order texts)
