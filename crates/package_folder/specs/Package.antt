-- A package, as the files of its folder say it (Kattis problem package format, legacy).
use Rattle.std.specs.Prelude.{◌≡◌, ℕ, ◌≤◌, List, length, Option, None, Result, Ok, true, All}
use Rattle.farm_kinds.specs.Limits.{is_raw_image}
use Rattle.farm_tree.specs.declared.reads.TreeFile.{TreeFile}
use Rattle.default_validator.specs.declared.flags.Flags.{Flags as ValidatorFlags}
use Rattle.default_validator.specs.Accepts.{wide_token_of}
use Rattle.problem_settings.specs.declared.yaml.Yaml.{Yaml as YamlValue}
use Rattle.problem_settings.specs.MachineLimits.{limits_of}
use Rattle.package_folder.specs.declared.package.Test.{Test}
use Rattle.package_folder.specs.declared.package.Checker.{Checker}
use Rattle.package_folder.specs.declared.package.Checker.TheVariants.{Default, Custom}
use Rattle.package_folder.specs.declared.package.Package.{Package}
use Rattle.package_folder.specs.declared.package.PackageFault.{PackageFault}
use Rattle.package_folder.specs.Names.{paths_below, stems_of, test_limit}
use Rattle.package_folder.specs.Reading.{and_then, yaml_in, limit_in, flags_by, data_of, tests_in, check_by}

abbrev pub with_tests : List TreeFile → List ℕ → ℕ → YamlValue → ℕ → Option ValidatorFlags → List Test
    → Result Package PackageFault
with_tests files path ips yaml ms flags tests =
    and_then (λ check. Ok record { name = yaml.name; tests = tests; limits = limits_of yaml ms ips; check = check })
    (check_by files path yaml.flags flags tests)

-- the tests of the folder `data`
abbrev pub data_in : List TreeFile → List ℕ → Result (List Test) PackageFault
data_in files path = and_then (tests_in files path) (stems_of (data_of path) (paths_below (data_of path) files))

abbrev pub with_flags : List TreeFile → List ℕ → ℕ → YamlValue → ℕ → Option ValidatorFlags → Result Package PackageFault
with_flags files path ips yaml ms flags =
    and_then (with_tests files path ips yaml ms flags)
    (and_then (tests_in files path) (stems_of (data_of path) (paths_below (data_of path) files)))

abbrev pub with_yaml : List TreeFile → List ℕ → ℕ → YamlValue → Result Package PackageFault
with_yaml files path ips yaml =
    and_then (λ ms. and_then (with_flags files path ips yaml ms) (flags_by yaml.validation yaml.flags))
    (limit_in files path)

-- the package in the folder at the path, or its first fault
unfoldable pub package_of : List TreeFile → List ℕ → ℕ → Result Package PackageFault
package_of files path ips = and_then (with_yaml files path ips) (yaml_in files path)

-- the checker is a program
abbrev pub HasImage : Checker → Type 0
HasImage (Default flags) = ⊥
HasImage (Custom image flags) = is_raw_image image ≡ true

-- what a judge may rely on
abbrev pub IsChecked : Checker → List Test → Type 0
IsChecked (Default flags) tests = All (λ test. wide_token_of flags test.answer ≡ None) tests
IsChecked (Custom image flags) tests = is_raw_image image ≡ true

pub record IsPackage (read : Package) : Type 0 where
  pub some : 1 ≤ length read.tests
  pub few : length read.tests ≤ test_limit
  pub checked : IsChecked read.check read.tests
