-- Where the files of a package's tests stand.
use Rattle.std.specs.Prelude.{◌≡◌, ◌⊎◌, ℕ, List, ◌++◌, map, codes}
use Rattle.farm_tree.specs.declared.reads.TreeFile.{TreeFile}
use Rattle.farm_tree.specs.Listing.{in_folder}
use Rattle.package_folder.specs.declared.package.Test.{Test}
use Rattle.package_folder.specs.Walk.{HasFile}

-- the file of this name below the package's folder `data`
abbrev pub in_data : List ℕ → List ℕ → List ℕ
in_data path name = in_folder (in_folder path (codes "data")) name

-- `sample/..` or `secret/..`
abbrev pub IsTestName : List ℕ → Type 0
IsTestName name = (rest : List ℕ) × ((name ≡ codes "sample/" ++ rest) ⊎ (name ≡ codes "secret/" ++ rest))

-- the folder has an input of this name
abbrev pub HasInput : List TreeFile → List ℕ → List ℕ → Type 0
HasInput files path name = IsTestName name × HasFile files (in_data path (name ++ codes ".in"))

abbrev pub names_of : List Test → List (List ℕ)
names_of tests = map (λ test. test.name) tests
