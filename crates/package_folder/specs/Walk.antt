-- How far a walk through the folders has come.
use Rattle.std.specs.Prelude.{◌≡◌, ℕ, ◌+◌, ◌≤◌, List, [], ◌++◌, length, map, filter, not, All, Contains, ◌⊎◌}
use Rattle.farm_tree.specs.declared.reads.TreeFile.{TreeFile}
use Rattle.farm_tree.specs.declared.entries.Entry.{Entry}
use Rattle.farm_tree.specs.Reading.{path_limit}
use Rattle.farm_tree.specs.Listing.{in_folder}

-- the path lies below the folder
abbrev pub LiesBelow : List ℕ → List ℕ → Type 0
LiesBelow folder path = (rest : List ℕ) × (path ≡ in_folder folder rest)

abbrev pub HasFile : List TreeFile → List ℕ → Type 0
HasFile files path = Contains (map (λ file. file.path) files) path

-- the paths of the folder's entries that are files, and of those that are folders
abbrev pub files_among : List ℕ → List Entry → List (List ℕ)
files_among folder entries = map (λ entry. in_folder folder entry.name) (filter (λ entry. not entry.folder) entries)

abbrev pub folders_among : List ℕ → List Entry → List (List ℕ)
folders_among folder entries = map (λ entry. in_folder folder entry.name) (filter (λ entry. entry.folder) entries)

-- Of the files below the folder some are found, and each other one lies below a folder that is still to be listed.
pub record Reaches (files : List TreeFile) (folder : List ℕ) (found folders : List (List ℕ)) : Type 0 where
  pub sound : (path : List ℕ) → Contains found path → HasFile files path × LiesBelow folder path
  pub within : (path : List ℕ) → Contains folders path → (path ≡ folder) ⊎ LiesBelow folder path
  pub covers : (path : List ℕ) → HasFile files path → LiesBelow folder path
      → Contains found path ⊎ ((inner : List ℕ) × Contains folders inner × LiesBelow inner path)

-- Folders that are listed have short paths, and what they hold has longer ones.
abbrev pub Deepens : List (List ℕ) → List (List ℕ) → Type 0
Deepens folders inner =
    (n : ℕ) → All (λ path. n ≤ length path) folders
    → (inner ≡ []) ⊎ ((n ≤ path_limit) × All (λ path. n + 1 ≤ length path) inner)

-- One folder is listed: its files are found, and its folders are still to be listed.
pub record Visits (files : List TreeFile) (folder : List ℕ) (found found' folders folders' : List (List ℕ))
    : Type 0 where
  pub found_before : (path : List ℕ) → Contains found path → Contains found' path
  pub found_there : (path : List ℕ) → Contains found' path
      → Contains found path ⊎ (HasFile files path × LiesBelow folder path)
  pub folders_before : (path : List ℕ) → Contains folders path → Contains folders' path
  pub folders_there : (path : List ℕ) → Contains folders' path → Contains folders path ⊎ LiesBelow folder path
  pub covers : (path : List ℕ) → HasFile files path → LiesBelow folder path
      → Contains found' path ⊎ ((inner : List ℕ) × Contains folders' inner × LiesBelow inner path)

-- What was added are paths below a folder that is short.
abbrev pub DeepensBy : List ℕ → List (List ℕ) → List (List ℕ) → Type 0
DeepensBy folder folders folders' =
    (more : List (List ℕ)) × (folders' ≡ folders ++ more)
    × ((more ≡ []) ⊎ ((length folder ≤ path_limit) × All (λ path. length folder + 1 ≤ length path) more))
