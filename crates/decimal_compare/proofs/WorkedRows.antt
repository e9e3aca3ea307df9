-- Rows that the definitions compute.
use Rattle.std.specs.Prelude.{◌≡◌, codes, refl, pos, negsuc, Some, None, true, false, ◌^◌}
use Rattle.decimal_compare.specs.declared.token.Token.TheVariants.{NotDecimal, Whole, Float, WideFloat}
use Rattle.decimal_compare.specs.declared.amount.Part.TheVariants.{Both}
use Rattle.decimal_compare.specs.Digits.{scaled}
use Rattle.decimal_compare.specs.Decimal.{numeral_of, size_of, decimal_of, token_of}
use Rattle.decimal_compare.specs.Amount.{is_exact, amount_of}
use Rattle.decimal_compare.specs.Within.{is_within}

pub exponent_row : token_of (codes "3.14000000e-2") ≡ token_of (codes "0.0314")
unfolding decimal_of numeral_of size_of scaled
exponent_row = refl

pub negative_row : token_of (codes "-.5") ≡ Float (negsuc 499999999999)
unfolding decimal_of numeral_of size_of scaled
negative_row = refl

-- nine tenths of a unit are dropped
pub dropped_row : token_of (codes "1.0000000000009") ≡ Float (pos (10 ^ 12))
unfolding decimal_of numeral_of size_of scaled
dropped_row = refl

pub whole_row : token_of (codes "1000000000000") ≡ Whole (pos (10 ^ 24))
unfolding decimal_of numeral_of size_of scaled
whole_row = refl

pub wide_row : token_of (codes "1e9999") ≡ WideFloat
unfolding decimal_of numeral_of size_of scaled
wide_row = refl

pub point_alone_row : token_of (codes ".") ≡ NotDecimal
unfolding decimal_of numeral_of size_of scaled
point_alone_row = refl

pub five_digits_row : token_of (codes "1e99999") ≡ NotDecimal
unfolding decimal_of numeral_of size_of scaled
five_digits_row = refl

pub amount_row : amount_of Both (codes "1e-6") ≡ Some (pos 1000000)
unfolding numeral_of size_of scaled is_exact
amount_row = refl

pub dropped_amount_row : amount_of Both (codes "1e-13") ≡ None
unfolding numeral_of size_of scaled is_exact
dropped_amount_row = refl

pub within_row : is_within (record { relative = None; absolute = Some (pos 1000000) }) (pos 1000001000000) (pos 1000000000000) ≡ true
within_row = refl

pub past_row : is_within (record { relative = None; absolute = Some (pos 1000000) }) (pos 1000002000000) (pos 1000000000000) ≡ false
past_row = refl
