-- The sizes of a package's test files.
use Rattle.std.specs.Prelude.{◌≡◌, ◌≤◌, ℕ, List, [], ◌∷◌, length, Contains, Some}
use Rattle.farm_tree.specs.declared.reads.TreeFile.{TreeFile}
use Rattle.farm_tree.specs.Reading.{file_at, file_limit}
use Rattle.package_folder.specs.Names.{input_path, answer_path}
use Rattle.package_folder.specs.Reading.{held_at}

-- the file is there, and no file is read that is larger than it may be
abbrev pub IsReadable : List TreeFile → List ℕ → Type 0
IsReadable files path = (bytes : List ℕ) × (file_at files path ≡ Some bytes) × (length bytes ≤ file_limit)

-- the input and the answer of each of these tests
pub record AreReadable (files : List TreeFile) (stems : List (List ℕ)) : Type 0 where
  pub input : (stem : List ℕ) → Contains stems stem → IsReadable files (input_path stem)
  pub answer : (stem : List ℕ) → Contains stems stem → IsReadable files (answer_path stem)

-- their sizes, each input before its answer
abbrev pub sizes_of : List TreeFile → List (List ℕ) → List ℕ
sizes_of files [] = []
sizes_of files (stem ∷ stems) =
    length (held_at files (input_path stem)) ∷ length (held_at files (answer_path stem)) ∷ sizes_of files stems
