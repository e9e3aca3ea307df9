-- What lies in the folder of a package beside what is read of it (Kattis problem package format, legacy, "Test data", "Output
-- validators").
use Rattle.std.specs.Prelude.{ℕ, ◌-◌, List, [], ◌∷◌, ◌++◌, length, take, map, Bool, true, false, ◌||◌, if◌then◌else◌, nat_eq, Option, Some, None, is_some, Result, Ok, Err, codes}
use Rattle.std.specs.Str.{bytes_eq}
use Rattle.std.specs.List.{before_first, ends_with, filter_map, list_any}
use Rattle.farm_tree.specs.declared.entries.Entry.{Entry}
use Rattle.farm_tree.specs.Listing.{is_slash}
use Rattle.problem_settings.specs.declared.yaml.BadLine.{BadLine}
use Rattle.problem_settings.specs.declared.yaml.Validation.{Validation}
use Rattle.problem_settings.specs.declared.yaml.Validation.TheVariants as validation
use Rattle.problem_settings.specs.declared.yaml.Yaml.{Yaml as YamlValue}
use Rattle.problem_settings.specs.ProblemYaml.{yaml_of}
use Rattle.package_folder.specs.Names.{input_path, name_below, without_in}
use Rattle.package_folder.specs.Reading.{data_of}
use Rattle.package_notes.specs.declared.notes.Note.{Note}
use Rattle.package_notes.specs.declared.notes.Note.TheVariants as note

-- ---- files below data

-- the folder of `data` in which a file lies that has this path below `data`, where it lies in one
abbrev pub top_folder : List ℕ → Option (List ℕ)
top_folder rest = if list_any is_slash rest then Some (before_first is_slash rest) else None

-- the two folders that have tests
abbrev pub has_tests : List ℕ → Bool
has_tests name = bytes_eq name (codes "sample") || bytes_eq name (codes "secret")

-- the path without `.ans`, where it ends so
abbrev pub without_ans : List ℕ → Option (List ℕ)
without_ans path = if ends_with nat_eq path (codes ".ans") then Some (take (length path - 4) path) else None

-- an answer belongs to the input beside it
abbrev pub answer_note : List (List ℕ) → List ℕ → Option (List ℕ) → Option Note
answer_note paths name None = Some (note.OtherFile name)
answer_note paths name (Some stem) = if list_any (bytes_eq (input_path stem)) paths then None else Some (note.LoneAnswer name)

-- an input is a test
abbrev pub test_file_note : List (List ℕ) → List ℕ → List ℕ → Option Note
test_file_note paths name path = if is_some (without_in path) then None else answer_note paths name (without_ans path)

abbrev pub file_note_in : List (List ℕ) → List ℕ → List ℕ → Option (List ℕ) → Option Note
file_note_in paths name path None = Some (note.OutsideFile name)
file_note_in paths name path (Some top) = if has_tests top then test_file_note paths name path else None

-- the note on a file below `data` of the package's folder, where there is one; these are the paths of all files there
abbrev pub file_note : List ℕ → List (List ℕ) → List ℕ → Option Note
file_note folder paths path =
    file_note_in paths (name_below folder path) path (top_folder (name_below (data_of folder) path))

-- the notes on them, in the order of their paths
abbrev pub file_notes : List ℕ → List (List ℕ) → List Note
file_notes folder paths = filter_map (file_note folder paths) paths

-- ---- folders of data

abbrev pub other_folder_in : Option (List ℕ) → Option (List ℕ)
other_folder_in None = None
other_folder_in (Some top) = if has_tests top then None else Some top

-- the folder of `data` in which the file lies, where that has no tests
abbrev pub other_folder : List ℕ → List ℕ → Option (List ℕ)
other_folder root path = other_folder_in (top_folder (name_below root path))

abbrev pub with_name : List (List ℕ) → Option (List ℕ) → List (List ℕ)
with_name names None = names
with_name names (Some name) = if list_any (bytes_eq name) names then names else names ++ name ∷ []

-- behind these names those of the folders in which the files lie, each once
abbrev pub other_folders_from : List ℕ → List (List ℕ) → List (List ℕ) → List (List ℕ)
other_folders_from root names [] = names
other_folders_from root names (path ∷ paths) = other_folders_from root (with_name names (other_folder root path)) paths

-- the notes on the folders of `data` that have no tests, each once, in the order of the paths of their files
abbrev pub folder_notes : List ℕ → List (List ℕ) → List Note
folder_notes root paths = map note.OtherFolder (other_folders_from root [] paths)

-- ---- output_validators

abbrev pub is_default : Validation → Bool
is_default validation.Default = true
is_default validation.Custom = false

abbrev pub reads_default : Result YamlValue BadLine → Bool
reads_default (Ok yaml) = is_default yaml.validation
reads_default (Err bad) = false

-- outputs are checked by the default validator; where `problem.yaml` is faulty or missing nothing is said of it
unfoldable pub says_default : Option (List ℕ) → Bool
says_default None = false
says_default (Some text) = reads_default (yaml_of text)

abbrev pub has_entries : List Entry → Bool
has_entries [] = false
has_entries (entry ∷ entries) = true

-- the note on validators that nothing asks for
abbrev pub validator_notes : Bool → List Note
validator_notes is_idle = if is_idle then note.Validators ∷ [] else []

abbrev pub is_custom : Validation → Bool
is_custom validation.Default = false
is_custom validation.Custom = true

abbrev pub reads_custom : Result YamlValue BadLine → Bool
reads_custom (Ok yaml) = is_custom yaml.validation
reads_custom (Err bad) = false

-- outputs are checked by a validator of the package
unfoldable pub says_custom : Option (List ℕ) → Bool
says_custom None = false
says_custom (Some text) = reads_custom (yaml_of text)

-- the bytes 7F 45 4C 46 (System V ABI, "ELF Identification")
abbrev pub begins_as_elf : List ℕ → Bool
begins_as_elf bytes = bytes_eq (take 4 bytes) (127 ∷ 69 ∷ 76 ∷ 70 ∷ [])

-- the note on a validator of this name with these bytes
abbrev pub elf_note_on : List ℕ → Option (List ℕ) → Option Note
elf_note_on name None = None
elf_note_on name (Some bytes) = if begins_as_elf bytes then Some (note.ElfValidator name) else None
