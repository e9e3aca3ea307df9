-- Answers over a tree that may tell its files.
use Rattle.std.specs.Prelude.{◌≡◌, ℕ, List, ◌∷◌, length, if◌then◌else◌, nat_le, Option, Some, None, Result, Ok, Err, Vec, ⊤}
use Rattle.std.specs.Global.{Global}
use Rattle.farm_tree.specs.declared.reads.TreeFile.{TreeFile}
use Rattle.farm_tree.specs.Reading.{file_at, file_limit}
use Rattle.farm_tree.specs.Listing.{in_folder}
use Rattle.contest_folder.specs.declared.faults.ContestFault.{ContestFault}
use Rattle.contest_folder.specs.declared.faults.ContestFault.TheVariants as fault

-- what comes next of what is there, where there was no fault
abbrev pub and_then : {A B : Type 0} → (A → Result B ContestFault) → Result A ContestFault → Result B ContestFault
and_then next (Ok a) = next a
and_then next (Err e) = Err e

-- this, and then the others
abbrev pub with_first : {A : Type 0} → A → Result (List A) ContestFault → Result (List A) ContestFault
with_first a others = and_then (λ rest. Ok (a ∷ rest)) others

-- the items that were read
abbrev pub listed : {A : Type 0} → Result (Vec A Global) ContestFault → Result (List A) ContestFault
listed (Ok items) = Ok items.items
listed (Err e) = Err e

-- a failure of the tree and want of memory end the reading, and say nothing of the folder
abbrev pub IsStop : ContestFault → Type 0
IsStop fault.Tree = ⊤
IsStop fault.NoMemory = ⊤
IsStop _ = ⊥

abbrev pub IsStopped : {A : Type 0} → Result A ContestFault → Type 0
IsStopped (Ok a) = ⊥
IsStopped (Err e) = IsStop e

-- the answer is the one that is defined, unless the reading was ended
abbrev pub Answers : {A : Type 0} → Result A ContestFault → Result A ContestFault → Type 0
Answers result defined = ¬ IsStopped result → result ≡ defined

-- the file, where it is there; its name is its path below the contest's folder
abbrev pub file_within : List ℕ → Option (List ℕ) → Result (Option (List ℕ)) ContestFault
file_within name None = Ok None
file_within name (Some bytes) =
    if nat_le (length bytes) file_limit then Ok (Some bytes) else Err (fault.TooLarge name (length bytes))

abbrev pub file_in : List TreeFile → List ℕ → List ℕ → Result (Option (List ℕ)) ContestFault
file_in files path name = file_within name (file_at files (in_folder path name))
