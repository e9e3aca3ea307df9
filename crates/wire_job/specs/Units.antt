-- The units of a tolerance as a text: a whole number of at most 128 bits with its sign, as it is written.
use Rattle.std.specs.Prelude.{ℕ, ℤ, pos, negsuc, ◌^◌, List, [], ◌∷◌, length, Bool, false, ◌&&◌, ◌||◌, ◌==◌, nat_lt, nat_le, Option, Some, None, if◌then◌else◌}
use Rattle.std.specs.List.{list_all}
use Rattle.std.specs.Char.{is_ascii_digit, is_digit}
use Rattle.std.specs.Str.Parse.{without_leading_sign, signed_digits_value}

-- a digit from 1 to 9
abbrev pub leads : ℕ → Bool
leads b = nat_le 49 b && nat_le b 57

-- the text begins as a number that is written: with one digit alone, or with a digit from 1 to 9, behind `-` or not
abbrev pub begins_plain : List ℕ → Bool
begins_plain [] = false
begins_plain (b ∷ []) = is_ascii_digit b
begins_plain (b ∷ c ∷ bs) = leads b || (b == 45 && leads c)

-- one digit or more, and nothing else
abbrev pub is_numeral : List ℕ → Bool
is_numeral digits = nat_lt 0 (length digits) && list_all (λ c. is_digit c 10) digits

-- from -2^127 to 2^127 - 1
abbrev pub fits_signed : ℤ → Bool
fits_signed (pos n) = nat_lt n (2 ^ 127)
fits_signed (negsuc n) = nat_lt n (2 ^ 127)

-- the number of its digits, behind a sign or not, where it fits
abbrev pub parsed : List ℕ → Option ℤ
parsed text =
    if is_numeral (without_leading_sign text) && fits_signed (signed_digits_value 10 text)
    then Some (signed_digits_value 10 text) else None

-- the number that the text says, where it is written as one that fits
abbrev pub units_of : List ℕ → Option ℤ
units_of text = if begins_plain text then parsed text else None
