-- Amounts: the decimals that a tolerance may be.
use Rattle.std.specs.Prelude.{ℕ, ◌+◌, ◌*◌, ◌^◌, List, ◌++◌, length, Bool, ◌&&◌, not, nat_le, nat_lt, ◌==◌, if◌then◌else◌, Option, Some, None, ℤ, pos}
use Rattle.decimal_compare.specs.Digits.{digits_number}
use Rattle.decimal_compare.specs.Decimal.{Numeral, numeral_of, size_of, raise_of, lower_of}
use Rattle.decimal_compare.specs.declared.amount.Part.{Part}
use Rattle.decimal_compare.specs.declared.amount.Part.TheVariants.{Relative, Absolute, Both}

-- the size is the number itself, with nothing dropped
unfoldable pub is_exact : Numeral → Bool
is_exact m =
    size_of m * 10 ^ (length m.fraction + lower_of m.exponent)
    == digits_number (m.whole ++ m.fraction) * 10 ^ (12 + raise_of m.exponent)

-- a relative amount is at most 1, an absolute one is below 10^12, and one for both is within both bounds
abbrev pub is_in_bounds : Part → ℕ → Bool
is_in_bounds Relative size = nat_le size (10 ^ 12)
is_in_bounds Absolute size = nat_lt size (10 ^ 24)
is_in_bounds Both size = nat_le size (10 ^ 12) && nat_lt size (10 ^ 24)

abbrev pub amount_of_numeral : Part → Option Numeral → Option ℤ
amount_of_numeral part None = None
amount_of_numeral part (Some m) =
    if not m.negative && (is_exact m && is_in_bounds part (size_of m)) then Some (pos (size_of m)) else None

-- the amount in units of 10^-12: a decimal without `-`, a whole number of units, within its bounds
abbrev pub amount_of : Part → List ℕ → Option ℤ
amount_of part word = amount_of_numeral part (numeral_of word)
