-- The names of files of submissions are texts.
use Rattle.std.proofs.Common.{ℕ, zero, suc, ◌≡◌, ◌<◌, List, [], ◌∷◌, get_or, Bool, true, false, ◌&&◌, refl, arith, IsUtf8}
use Rattle.std.specs.List.{list_all}
use Rattle.std.proofs.lemmas.Bool.Decides.{nat_tests}
use Rattle.std.proofs.lemmas.Str.{IsUtf8-from_ascii}
use Rattle.contest_folder.specs.SubmissionLines.{is_file_byte}

small : (b : ℕ) → is_file_byte b ≡ true → b < 128
small b e = grind (arith, nat_tests)

both : (a b : Bool) → (a && b) ≡ true → (a ≡ true) × (b ≡ true)
both true b e = (refl, e)
both false b e = cc

all_small : (word : List ℕ) → list_all is_file_byte word ≡ true → (i : ℕ) → get_or word i 0 < 128
all_small [] e i = omega arith
all_small (b ∷ word) e zero = small b (both (is_file_byte b) (list_all is_file_byte word) e).0
all_small (b ∷ word) e (suc i) = all_small word (both (is_file_byte b) (list_all is_file_byte word) e).1 i

pub text_of_name : (word : List ℕ) → list_all is_file_byte word ≡ true → IsUtf8 word
text_of_name word e = IsUtf8-from_ascii word (all_small word e)
