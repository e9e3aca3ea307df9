-- Bytes in strings, one byte after another.
use Rattle.std.proofs.Common.{◌≡◌, ℕ, ◌+◌, ◌<◌, ◌≤◌, List, length, get_or, drop, arith}
use Rattle.std.proofs.lemmas.List.{drop_more, drop_all}
use Rattle.wire_json.specs.Strings.{behind, weight, bytes_in_strings}
use Rattle.wire_json.specs.declared.strings.Position.{Position}

-- one byte more
pub one_byte_more : (bytes : List ℕ) (i : ℕ) (d : ℕ) (at : Position) (count : ℕ) → i < length bytes
    → count + bytes_in_strings at (drop i bytes) ≡ (count + weight at) + bytes_in_strings (behind at (get_or bytes i d)) (drop (i + 1) bytes)
one_byte_more bytes i d at count h = rw (drop_more bytes i d h) (omega arith)

-- no byte is left
pub no_byte_more : (bytes : List ℕ) (i : ℕ) (at : Position) (count : ℕ) → length bytes ≤ i
    → count + bytes_in_strings at (drop i bytes) ≡ count
no_byte_more bytes i at count h = rw (drop_all i bytes h) (omega arith)
