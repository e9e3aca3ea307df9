-- The decimal digits of a number are read as the number.
use Rattle.std.proofs.Common.{ℕ, zero, suc, ◌≡◌, ◌-◌, ◌^◌, ◌<◌, ◌≤◌, List, [], ◌∷◌, Some, true, refl, sym, arith, rules, get_or, eqb}
use Rattle.std.specs.Fmt.{decimal, digits}
use Rattle.std.specs.List.{list_all}
use Rattle.std.proofs.lemmas.Bool.{or_left, ne_eqb, not_from_false}
use Rattle.std.proofs.lemmas.Fmt.{digits_decimal, digits_value-decimal, decimal_nonempty, first_decimal}
use Rattle.std.proofs.lemmas.Str.Parse.{IsNumeralModel, numerals_by_fold}
use Rattle.farm_model.specs.Numbers.{value_from, is_digit, leads_well, number_of, moment_of}
use Rattle.command_text.specs.Limited.{number_within}
use Rattle.command_text.proofs.NumberLemmas.{all_digits}
use Rattle.command_text.proofs.Tokens.{IsToken, token-digits}

-- the words of numbers are std's
own : IsNumeralModel (λ ds. list_all is_digit ds ≡ true) (value_from 0)
own = numerals_by_fold _ (search rules) value_from (search rules)

first_leads : (word : List ℕ) → 48 < get_or word 0 0 → leads_well word ≡ true
first_leads [] h = absurd (omega arith)
first_leads (b ∷ bs) h = or_left _ _ (not_from_false (eqb b 48) (ne_eqb b 48 (λ e. omega arith)))

zero_leads : leads_well (decimal 0) ≡ true
unfolding digits
zero_leads = refl

decimal_leads : (n : ℕ) → n < 2 ^ 64 → leads_well (decimal n) ≡ true
decimal_leads zero h = zero_leads
decimal_leads (suc n) h = first_leads (decimal (suc n)) (first_decimal (suc n) (omega arith) h)

pub decimal_digits : (n : ℕ) → n < 2 ^ 64 → list_all is_digit (decimal n) ≡ true
decimal_digits n h = digits_decimal own n h

read_decimal : (limit n : ℕ) → n ≤ limit → limit < 2 ^ 64 → number_within limit (decimal n) ≡ Some n
read_decimal limit n small fits =
    let h : n < 2 ^ 64 = omega arith in
    sym (all_digits limit (decimal n) n (decimal_leads n h) (decimal_digits n h) (sym (digits_value-decimal own n h)) small)

pub number_of-decimal : (n : ℕ) → n ≤ 4294967295 → number_of (decimal n) ≡ Some n
number_of-decimal n small = read_decimal 4294967295 n small (omega arith)

pub moment_of-decimal : (n : ℕ) → n ≤ 10 ^ 18 - 1 → moment_of (decimal n) ≡ Some n
moment_of-decimal n small = read_decimal (10 ^ 18 - 1) n small (omega arith)

pub token-decimal : (n : ℕ) → n < 2 ^ 64 → IsToken (decimal n)
token-decimal n h = token-digits (decimal n) (decimal_nonempty n h) (decimal_digits n h)
