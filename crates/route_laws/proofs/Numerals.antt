-- The one text of a number.
use Rattle.std.proofs.Common.{ℕ, inl, inr, ◌≡◌, ◌≤◌, ◌<◌, List, [], ◌∷◌, Some, None, Bool, true, false, cond, not, refl, sym, ap, ◌∙◌, arith, rules, length, get_or, eqb, leb}
use Rattle.std.specs.Fmt.{decimal}
use Rattle.std.specs.List.{list_all}
use Rattle.std.specs.Option.{option_and_then}
use Rattle.std.proofs.lemmas.Bool.{and_parts, or_cases, leb-true, eqb-true, eqb-false, not-true}
use Rattle.std.proofs.lemmas.Bool.Decides.{nat_tests}
use Rattle.std.proofs.lemmas.Fmt.{decimal-digits_value, decimal_nonempty}
use Rattle.std.proofs.lemmas.Str.Parse.{IsNumeralModel, numerals_by_fold}
use Rattle.matchit.specs.Seek.{has_slash, slash}
use Rattle.farm_model.specs.Numbers.{value_from, is_digit, leads_well, is_numeral, at_most, number_of}
use Rattle.command_text.proofs.Decimals.{decimal_digits}

own : IsNumeralModel (λ ds. list_all is_digit ds ≡ true) (value_from 0)
own = numerals_by_fold _ (search rules) value_from (search rules)

nonempty : (word : List ℕ) → leads_well word ≡ true → 0 < length word
nonempty [] e = let no' : ⊥ = cc in absurd no'
nonempty (b ∷ bs) e = omega arith

alone : (word : List ℕ) → leads_well word ≡ true → get_or word 0 0 ≡ 48 → length word ≡ 1
alone [] e z = let no' : ⊥ = cc in absurd no'
alone (b ∷ bs) e z =
    elim (or_cases (not (eqb b 48)) (eqb (length bs) 0) e) [
      | inl h ↦ absurd (eqb-false b 48 (not-true (eqb b 48) h) z)
      | inr h ↦ omega (arith, eqb-true (length bs) 0 h)
    ]

limited : (word : List ℕ) (n : ℕ) → is_numeral word ≡ true → (few : Bool) → leb (value_from 0 word) 4294967295 ≡ few
    → cond few (Some (value_from 0 word)) None ≡ Some n → (word ≡ decimal n) × (n ≤ 4294967295)
limited word n e false f is = absurd (let no' : ⊥ = cc in no')
limited word n e true f is =
    let same : value_from 0 word ≡ n = cc in
    let parts = and_parts (leads_well word) (list_all is_digit word) e in
    let most : value_from 0 word ≤ 4294967295 = leb-true (value_from 0 word) 4294967295 f in
    let text : decimal (value_from 0 word) ≡ word = decimal-digits_value own word parts.1 (nonempty word parts.0) (alone word parts.0) (omega (arith, most)) in
    (sym text ∙ ap decimal same, omega (arith, most, same))

-- a word that is read as a number is the decimal text of it, and the number is in range
pub written : (word : List ℕ) (n : ℕ) → number_of word ≡ Some n → (word ≡ decimal n) × (n ≤ 4294967295)
written word n e = by (is_numeral word) refl e
  where
    by : (t : Bool) → is_numeral word ≡ t → option_and_then (at_most 4294967295) (cond t (Some (value_from 0 word)) None) ≡ Some n → (word ≡ decimal n) × (n ≤ 4294967295)
    by false f is = absurd (let no' : ⊥ = cc in no')
    by true f is = limited word n f (leb (value_from 0 word) 4294967295) refl is

pub digits_slashless : (ds : List ℕ) → list_all is_digit ds ≡ true → has_slash ds ≡ false
digits_slashless [] e = refl
digits_slashless (d ∷ ds) e =
    let parts = and_parts (is_digit d) (list_all is_digit ds) e in
    let ne : eqb d slash ≡ false = grind (arith, nat_tests) in
    rw ne (digits_slashless ds parts.1)

-- the text of a number
pub record IsDigits (word : List ℕ) : Type 0 where
  pub some : 0 < length word
  pub digits : list_all is_digit word ≡ true

pub decimal_is_digits : (n : ℕ) → n ≤ 4294967295 → IsDigits (decimal n)
decimal_is_digits n small = record { some = decimal_nonempty n (omega arith); digits = decimal_digits n (omega arith) }
