-- What the files of a package say.
use Rattle.std.specs.Prelude.{ℕ, ◌+◌, List, [], ◌∷◌, ◌++◌, length, map, if◌then◌else◌, nat_le, nat_eq, not, Bool, true, false, Option, Some, None, Result, Ok, Err, codes, unwrap_or}
use Rattle.std.specs.List.{ends_with, list_any}
use Rattle.farm_kinds.specs.Limits.{is_raw_image}
use Rattle.farm_tree.specs.declared.reads.TreeFile.{TreeFile}
use Rattle.farm_tree.specs.declared.entries.Entry.{Entry}
use Rattle.farm_tree.specs.Reading.{file_at, file_limit}
use Rattle.farm_tree.specs.Listing.{in_folder, entries_below, same_entry}
use Rattle.default_validator.specs.declared.flags.Flags.{Flags as ValidatorFlags}
use Rattle.default_validator.specs.declared.flags.FlagFault.{FlagFault}
use Rattle.default_validator.specs.Flags.{flags_of}
use Rattle.default_validator.specs.Accepts.{wide_token_of}
use Rattle.problem_settings.specs.declared.yaml.Yaml.{Yaml as YamlValue}
use Rattle.problem_settings.specs.declared.yaml.BadLine.{BadLine}
use Rattle.problem_settings.specs.declared.yaml.Validation.{Validation}
use Rattle.problem_settings.specs.declared.yaml.Validation.TheVariants as validation
use Rattle.problem_settings.specs.declared.ini.IniFault.{IniFault}
use Rattle.problem_settings.specs.declared.ini.IniFault.TheVariants.{BadLimit}
use Rattle.problem_settings.specs.ProblemYaml.{yaml_of}
use Rattle.problem_settings.specs.DomjudgeIni.{ini_of}
use Rattle.package_folder.specs.declared.package.Test.{Test}
use Rattle.package_folder.specs.declared.package.Checker.{Checker}
use Rattle.package_folder.specs.declared.package.Checker.TheVariants.{Default, Custom}
use Rattle.package_folder.specs.declared.package.PackageFault.{PackageFault}
use Rattle.package_folder.specs.declared.package.PackageFault.TheVariants as fault
use Rattle.package_folder.specs.Names.{name_below, input_path, answer_path}

-- what comes next of what is there, where there was no fault
abbrev pub and_then : {A B : Type 0} → (A → Result B PackageFault) → Result A PackageFault → Result B PackageFault
and_then next (Ok a) = next a
and_then next (Err e) = Err e

-- the file, where it is there; its name is its path below the package's folder
abbrev pub file_within : List ℕ → Option (List ℕ) → Result (Option (List ℕ)) PackageFault
file_within name None = Ok None
file_within name (Some bytes) =
    if nat_le (length bytes) file_limit then Ok (Some bytes) else Err (fault.TooLarge name (length bytes))

abbrev pub file_in : List TreeFile → List ℕ → List ℕ → Result (Option (List ℕ)) PackageFault
file_in files path name = file_within name (file_at files (in_folder path name))

-- ---- problem.yaml and domjudge-problem.ini

abbrev pub yaml_or_fault : Result YamlValue BadLine → Result YamlValue PackageFault
yaml_or_fault (Ok yaml) = Ok yaml
yaml_or_fault (Err bad) = Err (fault.Yaml bad.line bad.why)

abbrev pub yaml_said : Option (List ℕ) → Result YamlValue PackageFault
yaml_said None = Err fault.NoYaml
yaml_said (Some text) = yaml_or_fault (yaml_of text)

abbrev pub yaml_in : List TreeFile → List ℕ → Result YamlValue PackageFault
yaml_in files path = and_then yaml_said (file_in files path (codes "problem.yaml"))

abbrev pub limit_or_fault : Result ℕ IniFault → Result ℕ PackageFault
limit_or_fault (Ok ms) = Ok ms
limit_or_fault (Err (BadLimit line)) = Err (fault.Ini line)

-- one second, where there is no file
abbrev pub limit_said : Option (List ℕ) → Result ℕ PackageFault
limit_said None = Ok 1000
limit_said (Some text) = limit_or_fault (ini_of text)

abbrev pub limit_in : List TreeFile → List ℕ → Result ℕ PackageFault
limit_in files path = and_then limit_said (file_in files path (codes "domjudge-problem.ini"))

-- the flags of the default validator, where that is the one
abbrev pub flags_or_fault : Result ValidatorFlags FlagFault → Result (Option ValidatorFlags) PackageFault
flags_or_fault (Ok flags) = Ok (Some flags)
flags_or_fault (Err e) = Err (fault.Flags e)

abbrev pub flags_by : Validation → List ℕ → Result (Option ValidatorFlags) PackageFault
flags_by validation.Default text = flags_or_fault (flags_of text)
flags_by validation.Custom text = Ok None

-- ---- the tests' files

-- how many bytes the test files of a package have at most
abbrev pub total_limit : ℕ
total_limit = 268435456

abbrev pub total_within : ℕ → Result ℕ PackageFault
total_within total = if nat_le total total_limit then Ok total else Err (fault.TooMuch total)

-- the bytes so far with those of a file of the test
abbrev pub total_with_file : List ℕ → ℕ → Option (List ℕ) → Result ℕ PackageFault
total_with_file test total None = Err (fault.MissingAnswer test)
total_with_file test total (Some bytes) = total_within (total + length bytes)

abbrev pub data_of : List ℕ → List ℕ
data_of path = in_folder path (codes "data")

abbrev pub total_with_bytes : List TreeFile → List ℕ → List ℕ → ℕ → List ℕ → Result ℕ PackageFault
total_with_bytes files path test total file =
    and_then (total_with_file test total) (file_within (name_below path file) (file_at files file))

-- with those of the test's input and answer
abbrev pub total_with_test : List TreeFile → List ℕ → ℕ → List ℕ → Result ℕ PackageFault
total_with_test files path total stem =
    let test = name_below (data_of path) stem in
    and_then (λ one. total_with_bytes files path test one (answer_path stem))
    (total_with_bytes files path test total (input_path stem))

-- the bytes of the test files in order, each input before its answer
abbrev pub total_from : List TreeFile → List ℕ → ℕ → List (List ℕ) → Result ℕ PackageFault
total_from files path total [] = Ok total
total_from files path total (stem ∷ stems) =
    and_then (λ both. total_from files path both stems) (total_with_test files path total stem)

-- a total, where what was read is there
abbrev pub total_or : {A : Type 0} → ℕ → Result A PackageFault → Result ℕ PackageFault
total_or total read = and_then (λ _. Ok total) read

abbrev pub held_at : List TreeFile → List ℕ → List ℕ
held_at files path = unwrap_or (file_at files path) []

abbrev pub test_at : List TreeFile → List ℕ → List ℕ → Test
test_at files path stem = record {
  name = name_below (data_of path) stem;
  input = held_at files (input_path stem);
  answer = held_at files (answer_path stem);
}

abbrev pub tests_in : List TreeFile → List ℕ → List (List ℕ) → Result (List Test) PackageFault
tests_in files path stems = and_then (λ _. Ok (map (test_at files path) stems)) (total_from files path 0 stems)

-- ---- how outputs are checked

abbrev pub wide_or : Option ℕ → List ℕ → Result Checker PackageFault → Result Checker PackageFault
wide_or None name others = others
wide_or (Some at) name others = Err (fault.WideAnswer name at)

-- the first answer that has a wide token is a fault
abbrev pub default_check : ValidatorFlags → List Test → Result Checker PackageFault
default_check flags [] = Ok (Default flags)
default_check flags (test ∷ tests) = wide_or (wide_token_of flags test.answer) test.name (default_check flags tests)

abbrev pub image_or_fault : List ℕ → List ℕ → List ℕ → Result Checker PackageFault
image_or_fault name flags bytes = if is_raw_image bytes then Ok (Custom bytes flags) else Err (fault.BadValidator name)

abbrev pub validator_said : List ℕ → List ℕ → Option (List ℕ) → Result Checker PackageFault
validator_said name flags None = Err fault.NoValidator
validator_said name flags (Some bytes) = image_or_fault name flags bytes

abbrev pub validators_of : List ℕ → List ℕ
validators_of path = in_folder path (codes "output_validators")

-- an entry that is no file with this ending is source text
abbrev pub is_source : Entry → Bool
is_source entry = if entry.folder then true else not (ends_with nat_eq entry.name (codes ".rv32"))

abbrev pub program_at : List TreeFile → List ℕ → List ℕ → Entry → Result Checker PackageFault
program_at files path flags entry =
    and_then (validator_said entry.name flags) (file_in files path (in_folder (codes "output_validators") entry.name))

abbrev pub validator_at : List TreeFile → List ℕ → List ℕ → Entry → Result Checker PackageFault
validator_at files path flags entry =
    if is_source entry then Err (fault.SourceValidator entry.name)
    else program_at files path flags entry

-- each entry once
abbrev pub distinct : List Entry → List Entry
distinct [] = []
distinct (entry ∷ entries) = if list_any (same_entry entry) entries then distinct entries else entry ∷ distinct entries

abbrev pub only_validator : List TreeFile → List ℕ → List ℕ → List Entry → Result Checker PackageFault
only_validator files path flags [] = Err fault.NoValidator
only_validator files path flags (entry ∷ []) = validator_at files path flags entry
only_validator files path flags (entry ∷ other ∷ others) = Err (fault.ManyValidators (length (entry ∷ other ∷ others)))

abbrev pub custom_check : List TreeFile → List ℕ → List ℕ → Result Checker PackageFault
custom_check files path flags = only_validator files path flags (distinct (entries_below (validators_of path) files))

abbrev pub check_by : List TreeFile → List ℕ → List ℕ → Option ValidatorFlags → List Test → Result Checker PackageFault
check_by files path text (Some flags) tests = default_check flags tests
check_by files path text None tests = custom_check files path text
