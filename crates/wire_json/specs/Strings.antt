-- How long the strings of a body are, before it is read.
use Rattle.std.specs.Prelude.{ℕ, ◌+◌, List, [], ◌∷◌, Bool, ◌==◌, nat_lt, if◌then◌else◌}
use Rattle.wire_json.specs.declared.strings.Position.{Position}
use Rattle.wire_json.specs.declared.strings.Position.TheVariants.{Outside, Inside, Escaped}

-- where the byte behind this one stands (RFC 8259, section 7)
abbrev pub behind : Position → ℕ → Position
behind Outside b = if b == 34 then Inside else Outside
behind Inside b = if b == 34 then Outside else (if b == 92 then Escaped else Inside)
behind Escaped b = Inside

-- how many bytes it counts as: one in a string, its closing quote with it, none outside
abbrev pub weight : Position → ℕ
weight Outside = 0
weight Inside = 1
weight Escaped = 1

-- how many of the bytes stand in strings, where the first of them stands here
abbrev pub bytes_in_strings : Position → List ℕ → ℕ
bytes_in_strings at [] = 0
bytes_in_strings at (b ∷ bytes) = weight at + bytes_in_strings (behind at b) bytes

-- A body with longer strings than this says nothing that a shorter one could not: no field takes one of more than 32 bytes.
abbrev pub has_too_long_strings : List ℕ → Bool
has_too_long_strings bytes = nat_lt 1048576 (bytes_in_strings Outside bytes)
