-- The words of a line.
use Rattle.std.specs.Prelude.{ℕ, List, [], ◌∷◌, ◌==◌, if◌then◌else◌}

-- the byte goes onto the first word
abbrev pub onto_first : ℕ → List (List ℕ) → List (List ℕ)
onto_first b [] = (b ∷ []) ∷ []
onto_first b (word ∷ words) = (b ∷ word) ∷ words

-- the byte goes onto the word that follows at once, or is a word of its own
abbrev pub put_before : ℕ → List ℕ → List (List ℕ) → List (List ℕ)
put_before b [] ws = (b ∷ []) ∷ ws
put_before b (c ∷ bs) ws = if c == 32 then (b ∷ []) ∷ ws else onto_first b ws

-- the maximal runs of bytes other than space
abbrev pub words : List ℕ → List (List ℕ)
words [] = []
words (b ∷ bs) = if b == 32 then words bs else put_before b bs (words bs)
