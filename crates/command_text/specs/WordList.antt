-- Words that stand in slices, and lists that stand in words.
use Rattle.std.specs.Prelude.{ℕ, List, ◌∷◌, map, flat_map}
use Rattle.std.specs.Borrow.{Bor}
use Rattle.std.specs.Fmt.{decimal}

-- the bytes that each of the slices shows
abbrev pub word_bytes : List (Bor (List ℕ)) → List (List ℕ)
word_bytes words = map (λ word. word.now) words

-- each word with a space before it
abbrev pub spaced : List (List ℕ) → List ℕ
spaced words = flat_map (λ word. 32 ∷ word) words

-- each number with a comma before it
abbrev pub commas : List ℕ → List ℕ
commas numbers = flat_map (λ n. 44 ∷ decimal n) numbers
