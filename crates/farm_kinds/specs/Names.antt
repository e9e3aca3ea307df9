-- What is a name.
use Rattle.std.specs.Prelude.{ℕ, List, length, Option, Some, None, Bool, ◌&&◌, ◌||◌, nat_le, ◌==◌, if◌then◌else◌, codes}
use Rattle.std.specs.Char.{is_ascii_alphanumeric}
use Rattle.std.specs.List.{list_all}

-- a letter, a digit, `_` or `-`
abbrev pub is_name_byte : ℕ → Bool
is_name_byte b = is_ascii_alphanumeric b || b == 95 || b == 45

-- 1 to 32 letters, digits, `_` and `-`
abbrev pub is_name : List ℕ → Bool
is_name word = nat_le 1 (length word) && nat_le (length word) 32 && list_all is_name_byte word

-- the name that a word is read as
abbrev pub name_read : List ℕ → Option (List ℕ)
name_read word = if is_name word then Some word else None

-- who acts where no one is named
abbrev pub jury : List ℕ
jury = codes "jury"
