-- Words and lines, from their front.
use Rattle.std.proofs.Common.{ℕ, ◌≡◌, ◌<◌, List, [], ◌∷◌, Some, None, Bool, true, false, ◌&&◌, refl, ap, length, drop}
use Rattle.std.specs.Prelude.{◌==◌, if◌then◌else◌}
use Rattle.std.specs.Option.{option_map_or}
use Rattle.std.specs.Str.{bytes_eq}
use Rattle.problem_settings.specs.Fields.{is_empty}
use Rattle.std.proofs.lemmas.List.{drop_more}
use Rattle.problem_settings.specs.ProblemYaml.{after_word}

-- a text that ends within a word
pub word_cut : (word : List ℕ) (i : ℕ) → i < length word → after_word (drop i word) [] ≡ None
word_cut word i lt = ap (λ w. after_word w []) (drop_more word i 0 lt)

nothing_left : (t : Bool) (b : ℕ) (bs : List ℕ) → option_map_or is_empty (if t then Some (b ∷ bs) else None) false ≡ false
nothing_left true b bs = refl
nothing_left false b bs = refl

one_byte : (t : Bool) (ws bs : List ℕ) → option_map_or is_empty (after_word ws bs) false ≡ bytes_eq bs ws
    → option_map_or is_empty (if t then after_word ws bs else None) false ≡ (t && bytes_eq bs ws)
one_byte true ws bs h = h
one_byte false ws bs h = refl

-- a word that is all of the text
pub word_alone : (word text : List ℕ) → option_map_or is_empty (after_word word text) false ≡ bytes_eq text word
word_alone [] [] = refl
word_alone [] (b ∷ bs) = nothing_left (b == 32) b bs
word_alone (w ∷ ws) [] = refl
word_alone (w ∷ ws) (b ∷ bs) = one_byte (b == w) ws bs (word_alone ws bs)
