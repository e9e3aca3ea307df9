-- The files of a package's `data`, and the tests that they make (Kattis problem package format, legacy, "Test data").
use Rattle.std.specs.Prelude.{ℕ, ◌-◌, List, [], ◌∷◌, ◌++◌, length, take, map, filter, find, Bool, not, ◌||◌, if◌then◌else◌, nat_le, nat_eq, Option, Some, None, Result, Ok, Err, codes, is_some, unwrap_or}
use Rattle.std.specs.Str.{bytes_eq}
use Rattle.std.specs.List.{ends_with, filter_map, list_any}
use Rattle.farm_tree.specs.declared.reads.TreeFile.{TreeFile}
use Rattle.farm_tree.specs.Listing.{in_folder, below}
use Rattle.package_folder.specs.declared.package.PackageFault.{PackageFault}
use Rattle.package_folder.specs.declared.package.PackageFault.TheVariants.{Groups, MissingAnswer, NoTests, TooManyTests}
use Rattle.package_folder.specs.Order.{in_order}

abbrev pub is_below : List ℕ → List ℕ → Bool
is_below folder path = is_some (below folder path)

-- what a path is called below the folder
abbrev pub name_below : List ℕ → List ℕ → List ℕ
name_below folder path = unwrap_or (below folder path) []

-- the paths of the files below the folder
abbrev pub paths_below : List ℕ → List TreeFile → List (List ℕ)
paths_below folder files = in_order (filter (is_below folder) (map (λ file. file.path) files))

-- a file of test groups
abbrev pub is_groups : List ℕ → Bool
is_groups path = ends_with nat_eq path (codes "/testdata.yaml")

-- a file below `sample` or `secret`
abbrev pub is_of_tests : List ℕ → List ℕ → Bool
is_of_tests folder path =
    is_below (in_folder folder (codes "sample")) path || is_below (in_folder folder (codes "secret")) path

-- the path without `.in`, where it ends so
abbrev pub without_in : List ℕ → Option (List ℕ)
without_in path = if ends_with nat_eq path (codes ".in") then Some (take (length path - 3) path) else None

-- a test is known by the path of its files without their endings; its input is a file that ends in `.in`
abbrev pub stem_of : List ℕ → List ℕ → Option (List ℕ)
stem_of folder path = if is_of_tests folder path then without_in path else None

abbrev pub input_path : List ℕ → List ℕ
input_path stem = stem ++ codes ".in"

abbrev pub answer_path : List ℕ → List ℕ
answer_path stem = stem ++ codes ".ans"

-- the tests: those of `sample`, and then those of `secret`, since that is the order of their bytes
abbrev pub stems_among : List ℕ → List (List ℕ) → List (List ℕ)
stems_among folder paths = in_order (filter_map (stem_of folder) paths)

abbrev pub lacks_answer : List (List ℕ) → List ℕ → Bool
lacks_answer paths stem = not (list_any (bytes_eq (answer_path stem)) paths)

abbrev pub test_limit : ℕ
test_limit = 1000

abbrev pub few_enough : List (List ℕ) → Result (List (List ℕ)) PackageFault
few_enough [] = Err NoTests
few_enough (stem ∷ stems) =
    if nat_le (length (stem ∷ stems)) test_limit then Ok (stem ∷ stems) else Err (TooManyTests (length (stem ∷ stems)))

abbrev pub answered : List ℕ → Option (List ℕ) → List (List ℕ) → Result (List (List ℕ)) PackageFault
answered folder (Some stem) stems = Err (MissingAnswer (name_below folder stem))
answered folder None stems = few_enough stems

abbrev pub ungrouped : List ℕ → Option (List ℕ) → List (List ℕ) → List (List ℕ) → Result (List (List ℕ)) PackageFault
ungrouped folder (Some path) paths stems = Err (Groups (name_below folder path))
ungrouped folder None paths stems = answered folder (find (lacks_answer paths) stems) stems

-- the tests of the paths below the folder, or the first fault among them
abbrev pub stems_of : List ℕ → List (List ℕ) → Result (List (List ℕ)) PackageFault
stems_of folder paths = ungrouped folder (find is_groups paths) paths (stems_among folder paths)
