-- Answers over a tree that may tell its files.
use Rattle.std.specs.Prelude.{◌≡◌, ℕ, ◌≤◌, List, Option, Some, Result, Ok, Err, ⊤}
use Rattle.farm_tree.specs.declared.reads.TreeFile.{TreeFile}
use Rattle.package_folder.specs.declared.package.PackageFault.{PackageFault}
use Rattle.package_folder.specs.declared.package.PackageFault.TheVariants.{Tree, NoMemory}

-- what holds where the tree tells its files
abbrev pub WhereTold : Option (List TreeFile) → (List TreeFile → Type 0) → Type 0
WhereTold told P = (files : List TreeFile) → told ≡ Some files → P files

-- a failure of the tree and want of memory end the reading, and say nothing of the folder
abbrev pub IsStop : PackageFault → Type 0
IsStop Tree = ⊤
IsStop NoMemory = ⊤
IsStop _ = ⊥

abbrev pub IsStopped : {A : Type 0} → Result A PackageFault → Type 0
IsStopped (Ok a) = ⊥
IsStopped (Err fault) = IsStop fault

-- the answer is the one that is defined, unless the reading was ended
abbrev pub Answers : {A : Type 0} → Result A PackageFault → Result A PackageFault → Type 0
Answers result defined = ¬ IsStopped result → result ≡ defined
