-- Which outputs are accepted for an answer (Kattis problem package format, legacy, "Default Output Validator
-- Specification").
use Rattle.std.specs.Prelude.{ℕ, ◌+◌, ◌^◌, List, Bool, false, ◌&&◌, ◌||◌, not, nat_le, nat_lt, ◌==◌, if◌then◌else◌, Option, Some, None, ℤ, unsigned_abs, position, is_some}
use Rattle.std.specs.Str.{bytes_eq}
use Rattle.std.specs.Cmp.Lexicographic.{pointwise}
use Rattle.decimal_compare.specs.declared.tolerance.Tolerance.{Tolerance}
use Rattle.decimal_compare.specs.Decimal.{Decimal, decimal_of, is_wide}
use Rattle.decimal_compare.specs.Within.{is_within}
use Rattle.default_validator.specs.Pieces.{tokens, gaps}
use Rattle.default_validator.specs.declared.flags.Flags.{Flags}

-- ---- equal words

-- A to Z become a to z
abbrev pub folded : ℕ → ℕ
folded b = if nat_le 65 b && nat_le b 90 then b + 32 else b

abbrev pub same_byte : Bool → ℕ → ℕ → Bool
same_byte case a b = if case then a == b else folded a == folded b

-- the words are equal byte by byte, folded unless case counts
abbrev pub same_word : Bool → List ℕ → List ℕ → Bool
same_word case a b = pointwise (same_byte case) a b

-- ---- equal numbers

-- the value of a decimal that is not wide
abbrev pub narrow : Option Decimal → Option ℤ
narrow None = None
narrow (Some d) = if is_wide d then None else Some d.value

-- the judge's number is below 10^24 units in size, and the team's is within the tolerance of it
abbrev pub numbers_agree : Tolerance → Option ℤ → Option ℤ → Bool
numbers_agree tolerance None team = false
numbers_agree tolerance (Some judge) None = false
numbers_agree tolerance (Some judge) (Some team) =
    nat_lt (unsigned_abs judge) (10 ^ 24) && is_within tolerance team judge

abbrev pub decimals_agree : Tolerance → List ℕ → List ℕ → Bool
decimals_agree tolerance answer output =
    numbers_agree tolerance (narrow (decimal_of answer)) (narrow (decimal_of output))

-- ---- acceptance

-- a token of the answer takes a token of the output
abbrev pub agrees : Flags → List ℕ → List ℕ → Bool
agrees flags answer output = same_word flags.case answer output || decimals_agree flags.tolerance answer output

-- there are equally many tokens, and each pair agrees
abbrev pub tokens_agree : Flags → List (List ℕ) → List (List ℕ) → Bool
tokens_agree flags answer output = pointwise (agrees flags) answer output

-- where white space counts, the runs of it are equal
abbrev pub gaps_agree : Bool → List (List ℕ) → List (List ℕ) → Bool
gaps_agree space answer output = not space || pointwise bytes_eq answer output

unfoldable pub accepts_of : Flags → List ℕ → List ℕ → Bool
accepts_of flags answer output =
    tokens_agree flags (tokens answer) (tokens output) && gaps_agree flags.space (gaps answer) (gaps output)

-- ---- wide tokens

abbrev pub has_tolerance : Flags → Bool
has_tolerance flags = is_some flags.tolerance.relative || is_some flags.tolerance.absolute

-- a floating point decimal at or past 10^24 units in size
abbrev pub is_wide_float : Option Decimal → Bool
is_wide_float None = false
is_wide_float (Some d) = d.floating && nat_le (10 ^ 24) (unsigned_abs d.value)

abbrev pub is_wide_token : List ℕ → Bool
is_wide_token token = is_wide_float (decimal_of token)

-- the place of the answer's first wide token, where a tolerance is set
unfoldable pub wide_token_of : Flags → List ℕ → Option ℕ
wide_token_of flags answer = if has_tolerance flags then position is_wide_token (tokens answer) else None
