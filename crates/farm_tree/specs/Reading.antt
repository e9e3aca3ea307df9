-- What a read of a tree of files answers, and when a tree may fail.
use Rattle.std.specs.Prelude.{◌≡◌, ◌≢◌, ℕ, ◌≤◌, List, length, Option, Some, None, Result, Ok, Err, nat_le, if◌then◌else◌, option_map, ⊤}
use Rattle.std.specs.Str.{bytes_eq, IsUtf8}
use Rattle.std.specs.List.{find}
use Rattle.farm_io.specs.Streams.{Rose}
use Rattle.farm_io.specs.MemoryValue.{raised}
use Rattle.farm_tree.specs.declared.reads.TreeFile.{TreeFile}
use Rattle.farm_tree.specs.declared.reads.TreeErr.{TreeErr}
use Rattle.farm_tree.specs.declared.reads.TreeErr.TheVariants.{Absent, TooLarge, Failed, NoMemory}

-- how many bytes a file has at most
abbrev pub file_limit : ℕ
file_limit = 16777216

-- how many bytes a path has at most
abbrev pub path_limit : ℕ
path_limit = 4096

-- a path is a text, and has a limit
pub record IsPath (path : List ℕ) : Type 0 where
  pub short : length path ≤ path_limit
  pub utf8 : IsUtf8 path

-- the bytes of the file at the path, where there is one
abbrev pub file_at : List TreeFile → List ℕ → Option (List ℕ)
file_at files path = option_map (λ file. file.bytes) (find (λ file. bytes_eq path file.path) files)

-- what a read of the file is answered
abbrev pub read_answer : Option (List ℕ) → Result (List ℕ) TreeErr
read_answer None = Err Absent
read_answer (Some bytes) = if nat_le (length bytes) file_limit then Ok bytes else Err (TooLarge (length bytes))

-- A fault and want of memory say nothing of the file.
abbrev pub IsReadAnswer : Option (List ℕ) → Result (List ℕ) TreeErr → Type 0
IsReadAnswer file (Ok bytes) = Ok bytes ≡ read_answer file
IsReadAnswer file (Err Absent) = Err Absent ≡ read_answer file
IsReadAnswer file (Err (TooLarge len)) = Err (TooLarge len) ≡ read_answer file
IsReadAnswer file (Err Failed) = ⊤
IsReadAnswer file (Err NoMemory) = ⊤

-- the count of faults never falls, and rises at each fault and at nothing else
pub record HasCause {A : Type 0} (before now : ℕ) (result : Result A TreeErr) : Type 0 where
  pub later : before ≤ now
  pub failed : result ≡ Err Failed → Rose before now
  pub kept : result ≢ Err Failed → now ≡ before

-- the count of faults rises by one at a fault, and at nothing else
pub record CountsFault {A : Type 0} (before now : ℕ) (result : Result A TreeErr) : Type 0 where
  pub failed : result ≡ Err Failed → now ≡ raised before
  pub kept : result ≢ Err Failed → now ≡ before
