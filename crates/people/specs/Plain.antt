-- A text by which nobody speaks to a terminal.
use Rattle.std.specs.Prelude.{ℕ, List, flat_map, if◌then◌else◌}
use Rattle.std.specs.Char.{encode_utf8, is_control}
use Rattle.std.specs.Str.{chars}

-- a control character of Unicode (category Cc: below U+0020, and U+007F to U+009F) is shown as `?`
abbrev pub shown : ℕ → ℕ
shown c = if is_control c then 63 else c

-- and each other one by its bytes
abbrev pub shown_bytes : ℕ → List ℕ
shown_bytes c = encode_utf8 (shown c)

abbrev pub plain : List ℕ → List ℕ
plain text = flat_map shown_bytes (chars text)
