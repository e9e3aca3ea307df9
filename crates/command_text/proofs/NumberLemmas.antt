-- The number that digits stand for, digit by digit.
use Rattle.std.proofs.Common.{ℕ, ◌≡◌, ◌+◌, ◌-◌, ◌*◌, ◌<◌, ◌≤◌, List, [], ◌∷◌, ◌++◌, Option, Some, None, Bool, true, false, cond, ◌&&◌, refl, sym, ap, ◌∙◌, arith, length, take, drop, get_or}
use Rattle.std.specs.Prelude.{nat_le}
use Rattle.std.specs.List.{list_all}
use Rattle.std.specs.Option.{option_and_then}
use Rattle.std.proofs.lemmas.List.{take_more, take-append-drop}
use Rattle.std.proofs.lemmas.List.Folds.{list_all_more}
use Rattle.std.proofs.lemmas.Bool.Decides.{nat_tests}
use Rattle.farm_model.specs.Numbers.{value_from, is_digit, leads_well, is_numeral, at_most}
use Rattle.command_text.specs.Digits.{IsOver}
use Rattle.command_text.specs.Limited.{number_within}

value_from-append : (n : ℕ) (xs ys : List ℕ) → value_from n (xs ++ ys) ≡ value_from (value_from n xs) ys
value_from-append n [] ys = refl
value_from-append n (x ∷ xs) ys = value_from-append (10 * n + (x - 48)) xs ys

pub value_more : (word : List ℕ) (i v : ℕ) → i < length word → v ≡ value_from 0 (take i word) → v * 10 + (get_or word i 0 - 48) ≡ value_from 0 (take (i + 1) word)
value_more word i v lt h =
    let step : value_from 0 (take (i + 1) word) ≡ 10 * value_from 0 (take i word) + (get_or word i 0 - 48) = ap (value_from 0) (take_more word i 0 lt) ∙ value_from-append 0 (take i word) (get_or word i 0 ∷ []) in
    omega arith

pub digit_more : (text : List ℕ) (i : ℕ) → i < length text → list_all is_digit (take i text) ≡ true → is_digit (get_or text i 0) ≡ true → list_all is_digit (take (i + 1) text) ≡ true
digit_more text i lt digits digit = list_all_more is_digit text i 0 lt ∙ rw (digits, digit) refl

grows : (n : ℕ) (xs : List ℕ) → n ≤ value_from n xs
grows n [] = omega arith
grows n (x ∷ xs) = omega (arith, grows (10 * n + (x - 48)) xs)

-- a number that is within the limit, or not
abbrev limited : ℕ → Bool → ℕ → Option ℕ
limited limit numeral n = option_and_then (at_most limit) (cond numeral (Some n) None)

none_over : (limit : ℕ) (numeral : Bool) (n : ℕ) → limit < n → limited limit numeral n ≡ None
none_over limit true n big = let over : nat_le n limit ≡ false = grind (arith, nat_tests) in rw over refl
none_over limit false n big = refl

some_within : (limit n : ℕ) → n ≤ limit → limited limit true n ≡ Some n
some_within limit n small = let within : nat_le n limit ≡ true = grind (arith, nat_tests) in rw within refl

-- more digits make no smaller number
pub too_large : (limit : ℕ) (word : List ℕ) (i v : ℕ) → v ≡ value_from 0 (take i word) → limit < v → None ≡ number_within limit word
too_large limit word i v h big =
    let whole : value_from 0 word ≡ value_from v (drop i word) = ap (value_from 0) (sym (take-append-drop i word)) ∙ value_from-append 0 (take i word) (drop i word) ∙ ap (λ n. value_from n (drop i word)) (sym h) in
    sym (none_over limit (is_numeral word) (value_from 0 word) (omega (arith, grows v (drop i word))))

pub over_limit : (limit : ℕ) (word : List ℕ) → IsOver limit word → None ≡ number_within limit word
over_limit limit word h = too_large limit word (h.0 + 1) (value_from 0 (take (h.0 + 1) word)) refl h.3

both : (a b : Bool) → a ≡ true → b ≡ true → (a && b) ≡ true
both a b p q = rw (p, q) refl

-- each byte is a digit
pub all_digits : (limit : ℕ) (word : List ℕ) (v : ℕ) → leads_well word ≡ true → list_all is_digit word ≡ true → v ≡ value_from 0 word → v ≤ limit → Some v ≡ number_within limit word
all_digits limit word v lead digits h small =
    sym (ap (λ (b : Bool). limited limit b (value_from 0 word)) (both (leads_well word) (list_all is_digit word) lead digits)
    ∙ ap (limited limit true) (sym h) ∙ some_within limit v small)
