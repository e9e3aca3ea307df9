-- The tokens of a text, and the white space round them.
use Rattle.std.specs.Prelude.{ℕ, List, [], ◌∷◌, Bool, true, false, ◌&&◌, ◌||◌, nat_le, ◌==◌, if◌then◌else◌}

-- space, and tab, LF, VT, FF and CR
abbrev pub is_space : ℕ → Bool
is_space b = b == 32 || (nat_le 9 b && nat_le b 13)

-- the text begins with a byte that is no white space
abbrev pub begins_token : List ℕ → Bool
begins_token [] = false
begins_token (b ∷ bs) = if is_space b then false else true

-- the byte stands in front of the first run
abbrev pub onto_first : ℕ → List (List ℕ) → List (List ℕ)
onto_first b [] = (b ∷ []) ∷ []
onto_first b (run ∷ runs) = (b ∷ run) ∷ runs

-- the byte begins the token that follows at once, or is one by itself
abbrev pub token_before : ℕ → List ℕ → List (List ℕ) → List (List ℕ)
token_before b rest tokens = if begins_token rest then onto_first b tokens else (b ∷ []) ∷ tokens

-- the maximal runs of bytes that are no white space
abbrev pub tokens : List ℕ → List (List ℕ)
tokens [] = []
tokens (b ∷ bs) = if is_space b then tokens bs else token_before b bs (tokens bs)

-- no white space stands before a token that begins here
abbrev pub gap_before : List ℕ → List (List ℕ) → List (List ℕ)
gap_before rest gaps = if begins_token rest then gaps else [] ∷ gaps

-- the runs of white space before, between and after the tokens: one more than there are tokens, the first and the last
-- perhaps empty
abbrev pub gaps : List ℕ → List (List ℕ)
gaps [] = [] ∷ []
gaps (b ∷ bs) = if is_space b then onto_first b (gaps bs) else gap_before bs (gaps bs)
