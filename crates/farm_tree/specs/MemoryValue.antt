-- What a tree in memory stands for, and what setting a file does.
use Rattle.std.specs.Prelude.{◌≡◌, ℕ, List, [], ◌∷◌, Some, false, if◌then◌else◌}
use Rattle.std.specs.Str.{bytes_eq}
use Rattle.farm_tree.specs.declared.reads.TreeFile.{TreeFile}
use Rattle.farm_tree.specs.Reading.{file_at}

-- a tree that fails at listed calls
pub record MemoryValue : Type 0 where
  pub files : List TreeFile
  -- the numbers of the calls that fail
  pub failing : List ℕ
  -- how often it was called, and how often it failed
  pub calls : ℕ
  pub faults : ℕ

-- the files, where the one at the path holds the bytes; a new one stands last
abbrev pub with_file : List ℕ → List ℕ → List TreeFile → List TreeFile
with_file path bytes [] = record { path = path; bytes = bytes } ∷ []
with_file path bytes (file ∷ files) =
    if bytes_eq path file.path
    then record { path = path; bytes = bytes } ∷ files
    else file ∷ with_file path bytes files

-- the file at the path holds the bytes, and every other is as it was
pub record SetsFile (old new : List TreeFile) (path bytes : List ℕ) : Type 0 where
  pub here : file_at new path ≡ Some bytes
  pub elsewhere : (other : List ℕ) → bytes_eq other path ≡ false → file_at new other ≡ file_at old other
