-- What the words have to be before `clap` reads them.
use Rattle.std.specs.Prelude.{ℕ, List, [], ◌∷◌, Bool, true, false, not, ◌&&◌, ◌||◌, ◌==◌, nat_lt, Option, drop, length}
use Rattle.std.specs.List.{list_all}
use Rattle.std.specs.Option.{option_and_then, option_map_or}
use Rattle.std.specs.Str.{bytes_eq}
use Rattle.clap.specs.Lexer.{long_of}
use Rattle.clap.specs.Walk.{Text}

-- a byte below the space, or that of DEL
abbrev pub is_control : ℕ → Bool
is_control b = nat_lt b 32 || b == 127

-- the text names a user of basic authentication (RFC 7617): it has no colon and no control character
abbrev pub is_user : Text → Bool
is_user text = list_all (λ b. not (b == 58 || is_control b)) text

-- a value is not empty, and does not begin with `-`
abbrev pub is_value : Text → Bool
is_value [] = false
is_value (b ∷ bs) = not (b == 45)

-- the value of an option that stands in one word with it, as in `--NAME=VALUE`
abbrev pub joined_value : Text → Option Text
joined_value word = option_and_then (λ parts. parts.1) (long_of word)

-- the word is not empty, `-` or `--`, and what stands in it behind the `=` of an option is a value
abbrev pub is_plain : Text → Bool
is_plain word =
    not (length word == 0 || (bytes_eq word (45 ∷ []) || bytes_eq word (45 ∷ 45 ∷ [])))
    && option_map_or is_value (joined_value word) true

-- each word past the first is plain
abbrev pub are_plain : List Text → Bool
are_plain words = list_all is_plain (drop 1 words)
