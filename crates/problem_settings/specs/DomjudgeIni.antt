-- The time limit that `domjudge-problem.ini` says, in milliseconds (DOMjudge manual, "Problem package format").
use Rattle.std.specs.Prelude.{ℕ, ◌+◌, ◌-◌, ◌*◌, ◌^◌, List, [], ◌∷◌, Bool, ◌&&◌, ◌||◌, ◌==◌, nat_le, if◌then◌else◌, length, take, drop, Option, Some, None, slice_index, Result, Ok, Err, codes}
use Rattle.std.specs.List.{prefix_len}
use Rattle.std.specs.Str.{bytes_eq}
use Rattle.std.specs.Option.{option_map}
use Rattle.problem_settings.specs.declared.ini.IniFault.{IniFault}
use Rattle.problem_settings.specs.declared.ini.IniFault.TheVariants.{BadLimit}
use Rattle.problem_settings.specs.Lines.{LineValue, numbered, parts, without_mark}
use Rattle.problem_settings.specs.Fields.{Field, place_from, after_spaces, trimmed}
use Rattle.problem_settings.specs.Entries.{and_then}
use Rattle.problem_settings.specs.Scalars.{is_digit, number_of_digits, within}

abbrev pub stripped : List ℕ → List ℕ
stripped text = trimmed (after_spaces text)

-- KEY = VALUE, without the spaces round them
abbrev pub setting_of : List ℕ → Option Field
setting_of text =
    option_map
    (λ at. record { key = stripped (take at text); value = stripped (drop (at + 1) text) })
    (place_from 61 0 text)

abbrev pub is_quote : ℕ → Bool
is_quote b = b == 39 || b == 34

abbrev pub is_quoted : List ℕ → Bool
is_quoted text =
    nat_le 2 (length text)
    && is_quote (slice_index text 0)
    && slice_index text (length text - 1) == slice_index text 0

-- without one pair of single or double quotes
abbrev pub unquoted : List ℕ → List ℕ
unquoted text = if is_quoted text then take (length text - 2) (drop 1 text) else text

-- a point and one to three digits, in thousandths, or nothing
abbrev pub fraction_of : List ℕ → Option ℕ
fraction_of [] = Some 0
fraction_of (b ∷ digits) =
    if b == 46 && nat_le (length digits) 3 then option_map (λ n. n * 10 ^ (3 - length digits)) (number_of_digits digits)
    else None

abbrev pub whole_digits : List ℕ → List ℕ
whole_digits text = take (prefix_len is_digit text) text

abbrev pub after_digits : List ℕ → List ℕ
after_digits text = drop (prefix_len is_digit text) text

-- seconds from 0.001 to 1000, in thousandths
abbrev pub seconds_with : Option ℕ → Option ℕ → Option ℕ
seconds_with None fraction = None
seconds_with (Some whole) None = None
seconds_with (Some whole) (Some fraction) = within 1 1000000 (whole * 1000 + fraction)

abbrev pub milliseconds_of : List ℕ → Option ℕ
milliseconds_of text = seconds_with (number_of_digits (whole_digits text)) (fraction_of (after_digits text))

-- ---- the whole text

abbrev pub or_bad : LineValue → Option ℕ → Result ℕ IniFault
or_bad line None = Err (BadLimit line.number)
or_bad line (Some ms) = Ok ms

-- the limit once this line is read; a line that sets nothing, or another key, is skipped
abbrev pub with_setting : LineValue → ℕ → Option Field → Result ℕ IniFault
with_setting line ms None = Ok ms
with_setting line ms (Some field) =
    if bytes_eq field.key (codes "timelimit") then or_bad line (milliseconds_of (unquoted field.value)) else Ok ms

abbrev pub limit_from : ℕ → List LineValue → Result ℕ IniFault
limit_from ms [] = Ok ms
limit_from ms (line ∷ lines) = and_then (λ ms. limit_from ms lines) (with_setting line ms (setting_of line.text))

-- one second, where no line says otherwise
unfoldable pub ini_of : List ℕ → Result ℕ IniFault
ini_of text = limit_from 1000 (numbered 1 (parts 10 (without_mark text)))
