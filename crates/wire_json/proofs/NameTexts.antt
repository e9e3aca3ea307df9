-- A name is text.
use Rattle.std.proofs.Common.{◌≡◌, ℕ, zero, suc, ◌<◌, List, [], ◌∷◌, true, arith}
use Rattle.std.specs.Str.{IsUtf8, IsAscii}
use Rattle.std.specs.List.{list_all}
use Rattle.std.proofs.lemmas.Bool.{and_parts}
use Rattle.std.proofs.lemmas.Bool.Decides.{nat_tests}
use Rattle.std.proofs.lemmas.Str.{IsUtf8-from_ascii}
use Rattle.farm_kinds.specs.Names.{is_name, is_name_byte}

byte_is_ascii : (b : ℕ) → is_name_byte b ≡ true → b < 128
byte_is_ascii b h = grind (arith, nat_tests)

bytes_are_ascii : (word : List ℕ) → list_all is_name_byte word ≡ true → IsAscii word
bytes_are_ascii [] h i = omega arith
bytes_are_ascii (b ∷ word) h zero = byte_is_ascii b (and_parts (is_name_byte b) (list_all is_name_byte word) h).0
bytes_are_ascii (b ∷ word) h (suc i) = bytes_are_ascii word (and_parts (is_name_byte b) (list_all is_name_byte word) h).1 i

pub name_is_text : (word : List ℕ) → is_name word ≡ true → IsUtf8 word
name_is_text word h = IsUtf8-from_ascii word (bytes_are_ascii word (and_parts _ (list_all is_name_byte word) h).1)
