-- The problems of a contest: a package for each folder below `problems`.
use Rattle.std.specs.Prelude.{ℕ, List, [], ◌∷◌, length, map, filter, find, if◌then◌else◌, nat_le, not, Bool, Option, Some, None, Result, Ok, Err, codes}
use Rattle.farm_kinds.specs.Names.{is_name}
use Rattle.farm_tree.specs.declared.reads.TreeFile.{TreeFile}
use Rattle.farm_tree.specs.declared.entries.Entry.{Entry}
use Rattle.farm_tree.specs.Listing.{in_folder, entries_below}
use Rattle.package_folder.specs.declared.package.Package.{Package}
use Rattle.package_folder.specs.declared.package.PackageFault.{PackageFault}
use Rattle.package_folder.specs.Order.{in_order}
use Rattle.package_folder.specs.Package.{package_of}
use Rattle.contest_folder.specs.declared.roster.Problem.{Problem}
use Rattle.contest_folder.specs.declared.faults.ContestFault.{ContestFault}
use Rattle.contest_folder.specs.declared.faults.ContestFault.TheVariants as fault
use Rattle.contest_folder.specs.RosterShape.{problem_limit}
use Rattle.contest_folder.specs.Telling.{and_then, with_first}

abbrev pub problems_of : List ℕ → List ℕ
problems_of path = in_folder path (codes "problems")

-- the names of the entries that are folders
abbrev pub folders_of : List Entry → List (List ℕ)
folders_of entries = map (λ entry. entry.name) (filter (λ entry. entry.folder) entries)

-- the names of the folders below `problems`, in the order of their bytes
abbrev pub shorts_in : List TreeFile → List ℕ → List (List ℕ)
shorts_in files path = in_order (folders_of (entries_below (problems_of path) files))

abbrev pub is_bad_name : List ℕ → Bool
is_bad_name name = not (is_name name)

abbrev pub shorts_counted : List (List ℕ) → Result (List (List ℕ)) ContestFault
shorts_counted shorts =
    if nat_le (length shorts) problem_limit then Ok shorts else Err (fault.TooManyProblems (length shorts))

abbrev pub shorts_named : Option (List ℕ) → List (List ℕ) → Result (List (List ℕ)) ContestFault
shorts_named (Some name) shorts = Err (fault.BadName name)
shorts_named None shorts = shorts_counted shorts

-- the folders' names, which are names of problems, and not too many
abbrev pub shorts_checked : List (List ℕ) → Result (List (List ℕ)) ContestFault
shorts_checked shorts = shorts_named (find is_bad_name shorts) shorts

abbrev pub package_or_fault : List ℕ → Result Package PackageFault → Result Problem ContestFault
package_or_fault short (Ok contents) = Ok record { name = short; contents = contents }
package_or_fault short (Err e) = Err (fault.Package short e)

abbrev pub problem_at : List TreeFile → List ℕ → ℕ → List ℕ → Result Problem ContestFault
problem_at files folder ips short = package_or_fault short (package_of files (in_folder folder short) ips)

-- the packages one after another
abbrev pub packages_in : List TreeFile → List ℕ → ℕ → List (List ℕ) → Result (List Problem) ContestFault
packages_in files folder ips [] = Ok []
packages_in files folder ips (short ∷ shorts) =
    and_then (λ problem. with_first problem (packages_in files folder ips shorts)) (problem_at files folder ips short)

abbrev pub problems_in : List TreeFile → List ℕ → ℕ → Result (List Problem) ContestFault
problems_in files path ips = and_then (packages_in files (problems_of path) ips) (shorts_checked (shorts_in files path))
