-- A number of at most 128 bits that the standard library reads is what the definition says.
use Rattle.std.proofs.Common.{◌≡◌, ℕ, ℤ, pos, negsuc, ◌<◌, ◌^◌, List, [], ◌∷◌, length, true, false, cond, Some, None, Result, Ok, Err, refl, sym, ap, ◌∙◌, arith}
use Rattle.std.specs.Prelude.{◌&&◌, nat_lt}
use Rattle.std.specs.List.{list_all}
use Rattle.std.specs.Char.{is_digit, digit_value}
use Rattle.std.specs.Str.Parse.{AllDigits, IsNumeral, ParsesSigned, without_leading_sign, signed_digits_value}
use Rattle.std.specs.Result.{result_ok}
use Rattle.std.specs.Int.{w128}
use mir.Val.{SFits}
use Rattle.std.proofs.lemmas.Bool.{and_parts}
use Rattle.std.proofs.lemmas.Bool.Decides.{nat_tests}
use Rattle.wire_job.specs.Units.{is_numeral, fits_signed, parsed, begins_plain, units_of}

lt_from : (a b : ℕ) → nat_lt a b ≡ true → a < b
lt_from a b h = grind (arith, nat_tests)

lt_to : (a b : ℕ) → a < b → nat_lt a b ≡ true
lt_to a b h = grind (arith, nat_tests)

digits_from : (ds : List ℕ) → list_all (λ c. is_digit c 10) ds ≡ true → AllDigits 10 ds
digits_from [] h = tt
digits_from (c ∷ cs) h =
    let both = and_parts (is_digit c 10) (list_all (λ b. is_digit b 10) cs) h in
    (lt_from (digit_value c) 10 both.0, digits_from cs both.1)

digits_to : (ds : List ℕ) → AllDigits 10 ds → list_all (λ c. is_digit c 10) ds ≡ true
digits_to [] h = refl
digits_to (c ∷ cs) h = ap (λ t. t && list_all (λ b. is_digit b 10) cs) (lt_to (digit_value c) 10 h.0) ∙ digits_to cs h.1

numeral_from : (ds : List ℕ) → is_numeral ds ≡ true → IsNumeral 10 ds
numeral_from ds h =
    let both = and_parts (nat_lt 0 (length ds)) (list_all (λ c. is_digit c 10) ds) h in
    (lt_from 0 (length ds) both.0, digits_from ds both.1)

numeral_to : (ds : List ℕ) → IsNumeral 10 ds → is_numeral ds ≡ true
numeral_to ds h = ap (λ t. t && list_all (λ c. is_digit c 10) ds) (lt_to 0 (length ds) h.0) ∙ digits_to ds h.1

fits_from : (z : ℤ) → fits_signed z ≡ true → SFits w128 z
fits_from (pos n) h = record { sfits = lt_from n (2 ^ 127) h }
fits_from (negsuc n) h = record { sfits = lt_from n (2 ^ 127) h }

fits_to : (z : ℤ) → SFits w128 z → fits_signed z ≡ true
fits_to (pos n) h = lt_to n (2 ^ 127) h.sfits
fits_to (negsuc n) h = lt_to n (2 ^ 127) h.sfits

parsed_ok : (text : List ℕ) (z : ℤ) → IsNumeral 10 (without_leading_sign text) × SFits w128 (signed_digits_value 10 text) → z ≡ signed_digits_value 10 text → Some z ≡ parsed text
parsed_ok text z h e =
    let digits = without_leading_sign text in
    let value = signed_digits_value 10 text in
    let both : (is_numeral digits && fits_signed value) ≡ true = ap (λ t. t && fits_signed value) (numeral_to digits h.0) ∙ fits_to value h.1 in
    ap Some e ∙ sym (ap (λ t. cond t (Some value) None) both)

parsed_err : (text : List ℕ) → ¬ (IsNumeral 10 (without_leading_sign text) × SFits w128 (signed_digits_value 10 text)) → None ≡ parsed text
parsed_err text none =
    let digits = without_leading_sign text in
    let value = signed_digits_value 10 text in
    elim (is_numeral digits && fits_signed value) as (λ t. (is_numeral digits && fits_signed value) ≡ t → None ≡ cond t (Some value) None) [
      | true ↦ λ h. let both = and_parts (is_numeral digits) (fits_signed value) h in absurd (none (numeral_from digits both.0, fits_from value both.1))
      | false ↦ λ h. refl
    ] refl

parsed_is : {E : Type 0} (text : List ℕ) (r : Result ℤ E) → ParsesSigned w128 10 text r → result_ok r ≡ parsed text
parsed_is text (Ok z) h = parsed_ok text z h.0 h.1
parsed_is text (Err e) h = parsed_err text h

pub units_are : {E : Type 0} (text : List ℕ) (r : Result ℤ E) → begins_plain text ≡ true → ParsesSigned w128 10 text r → result_ok r ≡ units_of text
units_are text r p h = parsed_is text r h ∙ sym (ap (λ t. cond t (parsed text) None) p)
