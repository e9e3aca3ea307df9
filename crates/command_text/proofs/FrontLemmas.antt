-- The number that begins a text.
use Rattle.std.proofs.Common.{ℕ, zero, suc, ◌≡◌, ◌≢◌, ◌+◌, ◌<◌, ◌≤◌, List, [], ◌∷◌, Some, None, Bool, true, false, cond, not, ◌&&◌, ◌||◌, eqb, refl, sym, ap, ◌∙◌, arith, length, take, drop, get_or}
use Rattle.std.specs.List.{list_all}
use Rattle.std.specs.Option.{option_and_then}
use Rattle.std.proofs.Math.Bool.{and-false}
use Rattle.std.proofs.lemmas.Bool.{eqb-false}
use Rattle.std.proofs.lemmas.List.{length-take, length-drop, take-take, get_or-take}
use Rattle.std.proofs.lemmas.List.Folds.{list_all_at}
use Rattle.std.proofs.lemmas.Bool.Decides.{nat_tests}
use Rattle.farm_model.specs.Words.{words}
use Rattle.farm_model.specs.Numbers.{value_from, is_digit, leads_well, at_most, number_of}
use Rattle.command_text.specs.Digits.{IsOver}
use Rattle.command_text.specs.NextWord.{IsWord}
use Rattle.command_text.specs.Fronts.{with_rest, first_number}
use Rattle.command_text.proofs.WordLemmas.{first_word, first_at, word_more}
use Rattle.command_text.proofs.NumberLemmas.{too_large, all_digits}
use Rattle.command_text.proofs.Tokens.{run_of_digits}

-- How long the first word is of a text that begins with one
abbrev word_len : List ℕ → ℕ
word_len [] = 0
word_len (b ∷ bs) = cond (eqb b 32) 0 (suc (word_len bs))

run_at : (t : Bool) (b : ℕ) (bs : List ℕ) → eqb b 32 ≡ t → IsWord (take (word_len bs) bs) → IsWord (take (cond t 0 (suc (word_len bs))) (b ∷ bs))
run_at true b bs e h = tt
run_at false b bs e h = (eqb-false b 32 e, h)

run : (text : List ℕ) → IsWord (take (word_len text) text)
run [] = tt
run (b ∷ bs) = run_at (eqb b 32) b bs refl (run bs)

within_at : (t : Bool) (m n : ℕ) → m ≤ n → cond t 0 (suc m) ≤ suc n
within_at true m n h = omega arith
within_at false m n h = omega arith

within : (text : List ℕ) → word_len text ≤ length text
within [] = omega arith
within (b ∷ bs) = within_at (eqb b 32) (word_len bs) (length bs) (within bs)

space_at : (t : Bool) (b : ℕ) (bs : List ℕ) → eqb b 32 ≡ t → (word_len bs < length bs → get_or bs (word_len bs) 0 ≡ 32) → cond t 0 (suc (word_len bs)) < length (b ∷ bs) → get_or (b ∷ bs) (cond t 0 (suc (word_len bs))) 0 ≡ 32
space_at true b bs e h lt = grind (arith, nat_tests)
space_at false b bs e h lt = h (omega arith)

space : (text : List ℕ) → word_len text < length text → get_or text (word_len text) 0 ≡ 32
space [] lt = absurd (omega arith)
space (b ∷ bs) lt = space_at (eqb b 32) b bs refl (space bs) lt

first : (text : List ℕ) → 0 < length text → get_or text 0 0 ≢ 32 → words text ≡ take (word_len text) text ∷ words (drop (word_len text) text)
first text some ne = first_word text (word_len text) (run text) some ne (within text) (space text)

-- a run of bytes other than space is part of it
part_at : (t : Bool) (b k m : ℕ) → eqb b 32 ≡ t → b ≢ 32 → k ≤ m → suc k ≤ cond t 0 (suc m)
part_at true b k m e ne le = absurd (ne (grind (arith, nat_tests)))
part_at false b k m e ne le = omega arith

part : (text : List ℕ) (k : ℕ) → k ≤ length text → IsWord (take k text) → k ≤ word_len text
part text zero le h = omega arith
part [] (suc k) le h = absurd (omega arith)
part (b ∷ bs) (suc k) le h = part_at (eqb b 32) b k (word_len bs) refl h.0 (part bs k (omega arith) h.1)

-- The first word is no number

none_by : (text : List ℕ) → 0 < length text → get_or text 0 0 ≢ 32 → number_of (take (word_len text) text) ≡ None → first_number (words text) ≡ None
none_by text some ne h = ap first_number (first text some ne) ∙ ap (with_rest (words (drop (word_len text) text))) h

-- its first digits are too large
pub over : (text : List ℕ) → IsOver 4294967295 text → (0 < length text → get_or text 0 0 ≢ 32) → first_number (words text) ≡ None
over text h ne =
    let lt = h.1 in
    let small : h.0 + 1 ≤ word_len text = part text (h.0 + 1) (omega arith) (run_of_digits (take (h.0 + 1) text) h.2) in
    let same : take (h.0 + 1) (take (word_len text) text) ≡ take (h.0 + 1) text = take-take (h.0 + 1) (word_len text) text small in
    none_by text (omega arith) (ne (omega arith))
    (sym (too_large 4294967295 (take (word_len text) text) (h.0 + 1) (value_from 0 (take (h.0 + 1) text)) (ap (value_from 0) (sym same)) h.3))

no_digits : (word : List ℕ) → list_all is_digit word ≡ false → number_of word ≡ None
no_digits word h =
    ap (λ b. option_and_then (at_most 4294967295) (cond (leads_well word && b) (Some (value_from 0 word)) None)) h
    ∙ ap (λ b. option_and_then (at_most 4294967295) (cond b (Some (value_from 0 word)) None)) (and-false (leads_well word))

-- another byte follows on its digits
other_byte : (text : List ℕ) (i : ℕ) → i < length text → list_all is_digit (take i text) ≡ true → is_digit (get_or text i 0) ≡ false → get_or text i 0 ≢ 32 → get_or text 0 0 ≢ 32 → first_number (words text) ≡ None
other_byte text i lt digits other no_space ne =
    let more : i + 1 ≤ word_len text = part text (i + 1) (omega arith) (word_more text i lt (run_of_digits (take i text) digits) no_space) in
    let at : get_or (take (word_len text) text) i 0 ≡ get_or text i 0 = get_or-take (word_len text) text i 0 (omega arith) in
    let inside : i < length (take (word_len text) text) = omega (arith, length-take (word_len text) text, within text) in
    none_by text (omega arith) ne (no_digits (take (word_len text) text) (list_all_at is_digit (take (word_len text) text) i 0 inside (ap is_digit at ∙ other)))

-- where what is left goes on without a space
pub goes_on : (text : List ℕ) (i : ℕ) → i ≤ length text → list_all is_digit (take i text) ≡ true → (i < length text → is_digit (get_or text i 0) ≡ false) → 0 < length (drop i text) → get_or (drop i text) 0 0 ≢ 32 → (0 < length text → get_or text 0 0 ≢ 32) → first_number (words text) ≡ None
goes_on text i le digits other some no_space ne =
    let lt : i < length text = omega (arith, length-drop i text) in
    other_byte text i lt digits (other lt) (λ same. no_space (first_at text i ∙ same)) (ne (omega arith))

no_lead : (word : List ℕ) → leads_well word ≡ false → number_of word ≡ None
no_lead word h = ap (λ b. option_and_then (at_most 4294967295) (cond (b && list_all is_digit word) (Some (value_from 0 word)) None)) h

lead_at : (t : Bool) (i n : ℕ) (bs : List ℕ) → i ≤ n → (not t || eqb (length (take i bs)) 0) ≡ false → (not t || eqb (length (take n bs)) 0) ≡ false
lead_at false i n bs le h = h
lead_at true i n bs le h = grind (arith, nat_tests, length-take i bs, length-take n bs)

lead_more : (text : List ℕ) (i n : ℕ) → suc i ≤ n → leads_well (take (suc i) text) ≡ false → leads_well (take n text) ≡ false
lead_more text i zero le h = absurd (omega arith)
lead_more [] i (suc n) le h = refl
lead_more (b ∷ bs) i (suc n) le h = lead_at (eqb b 48) i n bs (omega arith) h

-- its digits have a zero in front, or there are none
pub bad_lead : (text : List ℕ) (i : ℕ) → i ≤ length text → list_all is_digit (take i text) ≡ true → leads_well (take i text) ≡ false → (i < length text → is_digit (get_or text i 0) ≡ false) → (0 < length text → get_or text 0 0 ≢ 32) → first_number (words text) ≡ None
bad_lead [] i le digits lead other ne = refl
bad_lead (b ∷ bs) zero le digits lead other ne = other_byte (b ∷ bs) 0 (omega arith) refl (other (omega arith)) (ne (omega arith)) (ne (omega arith))
bad_lead (b ∷ bs) (suc i) le digits lead other ne =
    let small : suc i ≤ word_len (b ∷ bs) = part (b ∷ bs) (suc i) le (run_of_digits (take (suc i) (b ∷ bs)) digits) in
    none_by (b ∷ bs) (omega arith) (ne (omega arith))
    (no_lead (take (word_len (b ∷ bs)) (b ∷ bs)) (lead_more (b ∷ bs) i (word_len (b ∷ bs)) small lead))

-- The first word is the number of these digits
pub found : (text : List ℕ) (i v : ℕ) → i ≤ length text → list_all is_digit (take i text) ≡ true → leads_well (take i text) ≡ true → v ≡ value_from 0 (take i text) → v ≤ 4294967295 → (0 < length (drop i text) → get_or (drop i text) 0 0 ≡ 32) → (0 < length text → get_or text 0 0 ≢ 32) → first_number (words text) ≡ Some (v, words (drop i text))
found [] zero v le digits lead h small behind ne = cc
found [] (suc i) v le digits lead h small behind ne = cc
found (b ∷ bs) i v le digits lead h small behind ne =
    ap first_number (first_word (b ∷ bs) i (run_of_digits (take i (b ∷ bs)) digits) (omega arith) (ne (omega arith)) le (λ lt. sym (first_at (b ∷ bs) i) ∙ behind (omega (arith, length-drop i (b ∷ bs)))))
    ∙ ap (with_rest (words (drop i (b ∷ bs)))) (sym (all_digits 4294967295 (take i (b ∷ bs)) v lead digits h small))
