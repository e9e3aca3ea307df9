-- A file that was read.
use Rattle.std.proofs.Common.{ℕ, ◌≡◌, List, length, nat_le, Bool, true, false, cond, Option, Some, None, Ok, Err}
use Rattle.farm_tree.specs.declared.reads.TreeErr.{TreeErr}
use Rattle.farm_tree.specs.declared.reads.TreeErr.TheVariants.{TooLarge}
use Rattle.farm_tree.specs.Reading.{file_limit, read_answer}

short : (t : Bool) (b bytes : List ℕ) (e : TreeErr) → Ok bytes ≡ cond t (Ok b) (Err e) → Some b ≡ Some bytes
short true b bytes e is = cc
short false b bytes e is = cc

-- it holds the bytes
pub read_ok : (file : Option (List ℕ)) (bytes : List ℕ) → Ok bytes ≡ read_answer file → file ≡ Some bytes
read_ok None bytes is = cc
read_ok (Some b) bytes is = short (nat_le (length b) file_limit) b bytes (TooLarge (length b)) is
