-- Decimals: the words that are one, and the number that each is, in units of 10^-12.
use Rattle.std.specs.Prelude.{ℕ, ◌+◌, ◌^◌, List, [], ◌∷◌, ◌++◌, length, drop, Bool, false, ◌&&◌, ◌||◌, nat_le, nat_lt, ◌==◌, if◌then◌else◌, Option, Some, None, ℤ, pos, neg_ℤ, unsigned_abs}
use Rattle.std.specs.List.{list_all, take_while, prefix_len}
use Rattle.std.specs.Option.{option_map}
use Rattle.decimal_compare.specs.Digits.{is_digit, digits_number, scaled}
use Rattle.decimal_compare.specs.declared.parts.Exponent.{Exponent}
use Rattle.decimal_compare.specs.declared.token.Token.{Token}
use Rattle.decimal_compare.specs.declared.token.Token.TheVariants.{NotDecimal, Whole, Float, WideWhole, WideFloat}

-- ---- the parts of a word

-- the word begins with `-`
abbrev pub has_minus : List ℕ → Bool
has_minus [] = false
has_minus (b ∷ bs) = b == 45

-- the word without a `+` or `-` in front
abbrev pub after_sign : List ℕ → List ℕ
after_sign [] = []
after_sign (b ∷ bs) = if b == 43 || b == 45 then bs else b ∷ bs

-- the digits in front
abbrev pub leading_digits : List ℕ → List ℕ
leading_digits text = take_while is_digit text

-- what follows the digits in front
abbrev pub after_digits : List ℕ → List ℕ
after_digits text = drop (prefix_len is_digit text) text

-- the text begins with a point
abbrev pub has_point : List ℕ → Bool
has_point [] = false
has_point (b ∷ bs) = b == 46

-- the text without a point in front
abbrev pub after_point : List ℕ → List ℕ
after_point [] = []
after_point (b ∷ bs) = if b == 46 then bs else b ∷ bs

-- the digits after a point in front, of which there are none where there is no point
abbrev pub fraction_of : List ℕ → List ℕ
fraction_of text = if has_point text then leading_digits (after_point text) else []

-- what follows a point and its digits
abbrev pub after_fraction : List ℕ → List ℕ
after_fraction text = if has_point text then after_digits (after_point text) else text

-- ---- the exponent

-- one to four digits
abbrev pub exponent_digits : Bool → List ℕ → Option Exponent
exponent_digits negative digits =
    if list_all is_digit digits && (nat_le 1 (length digits) && nat_le (length digits) 4)
    then Some (record { negative = negative; size = digits_number digits }) else None

-- nothing, which is the exponent 0; or `e` or `E`, perhaps a sign, and one to four digits
abbrev pub exponent_of : List ℕ → Option Exponent
exponent_of [] = Some (record { negative = false; size = 0 })
exponent_of (b ∷ bs) = if b == 101 || b == 69 then exponent_digits (has_minus bs) (after_sign bs) else None

-- ---- the numeral

-- a word that is a decimal, taken apart
pub record Numeral : Type 0 where
  pub negative : Bool
  pub floating : Bool
  pub whole : List ℕ
  pub fraction : List ℕ
  pub exponent : Exponent

-- with these digits, a point where there was one, and this exponent
abbrev pub numeral : Bool → List ℕ → List ℕ → Exponent → Numeral
numeral negative whole rest exponent =
    record {
      negative = negative;
      floating = has_point rest || nat_lt 0 (length (after_fraction rest));
      whole = whole;
      fraction = fraction_of rest;
      exponent = exponent;
    }

-- at least one digit in all, and then an exponent or nothing
abbrev pub numeral_with : Bool → List ℕ → List ℕ → Option Numeral
numeral_with negative whole rest =
    if nat_lt 0 (length whole + length (fraction_of rest))
    then option_map (numeral negative whole rest) (exponent_of (after_fraction rest)) else None

-- perhaps a sign, digits with at most one point, and perhaps an exponent
unfoldable pub numeral_of : List ℕ → Option Numeral
numeral_of word = numeral_with (has_minus word) (leading_digits (after_sign word)) (after_digits (after_sign word))

-- ---- the number

abbrev pub raise_of : Exponent → ℕ
raise_of e = if e.negative then 0 else e.size

abbrev pub lower_of : Exponent → ℕ
lower_of e = if e.negative then e.size else 0

-- n * 10^(e - f + 12) dropped to a whole number, for digits that are n, f of them after the point, and the exponent e
unfoldable pub size_of : Numeral → ℕ
size_of m =
    scaled (digits_number (m.whole ++ m.fraction)) (12 + raise_of m.exponent) (length m.fraction + lower_of m.exponent)

abbrev pub signed : Bool → ℕ → ℤ
signed negative size = if negative then neg_ℤ (pos size) else pos size

-- a decimal's value in units of 10^-12, and whether it is floating point
pub record Decimal : Type 0 where
  pub value : ℤ
  pub floating : Bool

abbrev pub decimal_of_numeral : Numeral → Decimal
decimal_of_numeral m = record { value = signed m.negative (size_of m); floating = m.floating }

unfoldable pub decimal_of : List ℕ → Option Decimal
decimal_of word = option_map decimal_of_numeral (numeral_of word)

-- at or past 10^25 units in size
abbrev pub is_wide : Decimal → Bool
is_wide d = nat_le (10 ^ 25) (unsigned_abs d.value)

abbrev pub token_of_decimal : Decimal → Token
token_of_decimal d =
    if is_wide d then (if d.floating then WideFloat else WideWhole)
    else (if d.floating then Float d.value else Whole d.value)

abbrev pub token_of_option : Option Decimal → Token
token_of_option None = NotDecimal
token_of_option (Some d) = token_of_decimal d

abbrev pub token_of : List ℕ → Token
token_of word = token_of_option (decimal_of word)
