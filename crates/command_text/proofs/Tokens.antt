-- Words joined by single spaces are cut into these words again.
use Rattle.std.proofs.Common.{ℕ, ◌≡◌, ◌<◌, ◌≢◌, Bool, true, List, [], ◌∷◌, refl, ap, ◌∙◌, arith, length, get_or}
use Rattle.std.specs.Prelude.{⊤}
use Rattle.std.specs.List.{join_with_byte, list_all}
use Rattle.std.proofs.lemmas.Bool.{and_parts}
use Rattle.std.proofs.lemmas.Bool.Decides.{nat_tests}
use Rattle.farm_kinds.specs.Names.{is_name, is_name_byte}
use Rattle.farm_model.specs.Words.{words}
use Rattle.farm_model.specs.Numbers.{is_digit}
use Rattle.command_text.specs.NextWord.{IsWord}
use Rattle.command_text.specs.WordList.{spaced}
use Rattle.command_text.proofs.WordLemmas.{joined}
use Rattle.command_text.proofs.Joining as joining

-- a word that is not empty
pub record IsToken (word : List ℕ) : Type 0 where
  pub some : 0 < length word
  pub run : IsWord word

abbrev pub AreTokens : List (List ℕ) → Type 0
AreTokens [] = ⊤
AreTokens (word ∷ ws) = IsToken word × AreTokens ws

space_first : (ws : List (List ℕ)) → 0 < length (spaced ws) → get_or (spaced ws) 0 0 ≡ 32
space_first [] h = absurd (omega arith)
space_first (w ∷ ws) h = refl

words_spaced : (ws : List (List ℕ)) → AreTokens ws → words (spaced ws) ≡ ws
words_spaced [] h = refl
words_spaced (w ∷ ws) h = joined w (spaced ws) h.0.run h.0.some (space_first ws) ∙ ap (λ t. w ∷ t) (words_spaced ws h.1)

pub words_joined : (ws : List (List ℕ)) → AreTokens ws → words (join_with_byte 32 ws) ≡ ws
words_joined [] h = refl
words_joined (w ∷ ws) h =
    ap words (joining.joined w ws) ∙ joined w (spaced ws) h.0.run h.0.some (space_first ws) ∙ ap (λ t. w ∷ t) (words_spaced ws h.1)

-- each byte passes a test that a space does not pass
run_by : (p : ℕ → Bool) → ((b : ℕ) → p b ≡ true → b ≢ 32) → (word : List ℕ) → list_all p word ≡ true → IsWord word
run_by p no_space [] h = tt
run_by p no_space (b ∷ bs) h =
    let parts : (p b ≡ true) × (list_all p bs ≡ true) = and_parts (p b) (list_all p bs) h in
    (no_space b parts.0, run_by p no_space bs parts.1)

name_byte_no_space : (b : ℕ) → is_name_byte b ≡ true → b ≢ 32
name_byte_no_space b h = λ e. grind (arith, nat_tests)

digit_no_space : (b : ℕ) → is_digit b ≡ true → b ≢ 32
digit_no_space b h = λ e. grind (arith, nat_tests)

pub run_of_digits : (word : List ℕ) → list_all is_digit word ≡ true → IsWord word
run_of_digits word h = run_by is_digit digit_no_space word h

some_bytes : (word : List ℕ) → is_name word ≡ true → 0 < length word
some_bytes word h = grind (arith, nat_tests)

name_bytes : (word : List ℕ) → is_name word ≡ true → list_all is_name_byte word ≡ true
name_bytes word h = grind (arith, nat_tests)

pub token-name : (word : List ℕ) → is_name word ≡ true → IsToken word
token-name word h = record {
  some = some_bytes word h;
  run = run_by is_name_byte name_byte_no_space word (name_bytes word h);
}

pub token-digits : (word : List ℕ) → 0 < length word → list_all is_digit word ≡ true → IsToken word
token-digits word some h = record {
  some = some;
  run = run_of_digits word h;
}
