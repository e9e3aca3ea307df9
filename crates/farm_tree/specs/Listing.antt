-- What a listing of a folder answers.
use Rattle.std.specs.Prelude.{◌≡◌, ◌≢◌, ◌↔◌, ℕ, List, [], ◌∷◌, ◌++◌, Option, Some, None, Result, Ok, Err, Bool, not, ◌&&◌, ◌==◌, if◌then◌else◌, option_map, Contains, AllPairs, ⊤}
use Rattle.std.specs.Str.{bytes_eq}
use Rattle.std.specs.List.{before_first, list_any, filter_map}
use Rattle.farm_tree.specs.declared.reads.TreeFile.{TreeFile}
use Rattle.farm_tree.specs.declared.reads.TreeErr.{TreeErr}
use Rattle.farm_tree.specs.declared.reads.TreeErr.TheVariants.{Absent, TooLarge, Failed, NoMemory}
use Rattle.farm_tree.specs.declared.entries.Entry.{Entry}

-- `/`
abbrev pub is_slash : ℕ → Bool
is_slash b = b == 47

-- the path of what has this name in the folder
abbrev pub in_folder : List ℕ → List ℕ → List ℕ
in_folder folder name = folder ++ 47 ∷ name

-- what follows a slash at the start
abbrev pub after_slash : List ℕ → Option (List ℕ)
after_slash [] = None
after_slash (b ∷ bytes) = if is_slash b then Some bytes else None

-- what follows the folder's path and a slash, where the path begins so
abbrev pub below : List ℕ → List ℕ → Option (List ℕ)
below [] path = after_slash path
below (a ∷ folder) [] = None
below (a ∷ folder) (b ∷ path) = if b == a then below folder path else None

-- the entry by which a folder leads to what lies below it: the first component, which is a folder where more follows
abbrev pub entry_to : List ℕ → Entry
entry_to rest = record { name = before_first is_slash rest; folder = list_any is_slash rest }

-- the entries of the folder, one for each file below it
abbrev pub entries_below : List ℕ → List TreeFile → List Entry
entries_below folder files = filter_map (λ file. option_map entry_to (below folder file.path)) files

-- two entries with one name, both folders or both files
abbrev pub same_entry : Entry → Entry → Bool
same_entry a b = (if a.folder then b.folder else not b.folder) && bytes_eq a.name b.name

-- the entry behind the others, where it is not among them
abbrev pub with_entry : Entry → List Entry → List Entry
with_entry entry entries = if list_any (same_entry entry) entries then entries else entries ++ entry ∷ []

-- the entries of the folder, each once and in any order
pub record IsListing (folder : List ℕ) (files : List TreeFile) (entries : List Entry) : Type 0 where
  pub each : (entry : Entry) → Contains entries entry ↔ Contains (entries_below folder files) entry
  pub once : AllPairs (λ a b. a ≢ b) entries

-- A folder is where a file lies below its path. A fault and want of memory say nothing of the folder.
abbrev pub IsListAnswer : List ℕ → List TreeFile → Result (List Entry) TreeErr → Type 0
IsListAnswer folder files (Ok entries) = (entries_below folder files ≢ []) × IsListing folder files entries
IsListAnswer folder files (Err Absent) = entries_below folder files ≡ []
IsListAnswer folder files (Err (TooLarge len)) = ⊥
IsListAnswer folder files (Err Failed) = ⊤
IsListAnswer folder files (Err NoMemory) = ⊤
