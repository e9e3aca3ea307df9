-- The package of a made problem.
use Rattle.std.proofs.Common.{ℕ, suc, ◌≡◌, ◌+◌, ◌*◌, ◌≤◌, List, [], ◌∷◌, true, cond, nat_le, length, map, Option, Some, None, Result, Ok, Err, unwrap_or, refl, sym, ap, ◌∙◌, subst, arith, codes}
use Rattle.std.proofs.lemmas.Bool.Decides.{nat_tests}
use Rattle.farm_tree.specs.declared.reads.TreeFile.{TreeFile}
use Rattle.farm_tree.specs.Reading.{file_at, file_limit}
use Rattle.farm_tree.specs.Listing.{in_folder}
use Rattle.default_validator.specs.Flags.{no_flags}
use Rattle.default_validator.specs.Accepts.{wide_token_of}
use Rattle.problem_settings.specs.declared.yaml.Validation.{Validation}
use Rattle.problem_settings.specs.declared.yaml.Validation.TheVariants as validation
use Rattle.problem_settings.specs.ProblemYaml.{yaml_of}
use Rattle.problem_settings.specs.MachineLimits.{limits_of}
use Rattle.package_folder.specs.declared.package.Test.{Test}
use Rattle.package_folder.specs.declared.package.Checker.TheVariants.{Default}
use Rattle.package_folder.specs.declared.package.Package.{Package}
use Rattle.package_folder.specs.declared.package.PackageFault.{PackageFault}
use Rattle.package_folder.specs.declared.package.PackageFault.TheVariants.{TooLarge, TooMuch}
use Rattle.package_folder.specs.Names.{name_below, input_path, answer_path, paths_below, stems_of}
use Rattle.package_folder.specs.Reading.{and_then, file_within, file_in, total_limit, total_with_file, total_with_bytes, total_with_test, total_from, test_at, tests_in, yaml_in, yaml_said, yaml_or_fault, limit_in, limit_said, limit_or_fault, flags_by, default_check, wide_or, data_of}
use Rattle.package_folder.specs.Package.{package_of, with_yaml, with_flags, with_tests}
use Rattle.work_maker.specs.Files.{limit_text}
use Rattle.work_maker.proofs.Each.{Each}
use Rattle.work_maker.proofs.Computed.{IsPlain, limit_is}
use Rattle.work_maker.proofs.Held.{IsHeld}

-- how many bytes a file of a made contest has at most
abbrev pub bound : ℕ
bound = 100000

fits : (n limit : ℕ) → n ≤ limit → nat_le n limit ≡ true
fits n limit le = grind (arith, nat_tests)

-- ---- files

pub read_is : (files : List TreeFile) (path name bytes : List ℕ) → file_at files (in_folder path name) ≡ Some bytes → length bytes ≤ bound → file_in files path name ≡ Ok (Some bytes)
read_is files path name bytes is small =
    ap (file_within name) is ∙ ap (λ t. cond t (Ok (Some bytes)) (Err (TooLarge name (length bytes)))) (fits (length bytes) file_limit (omega (arith, small)))

bytes_ok : (files : List TreeFile) (path test : List ℕ) (total : ℕ) (file : List ℕ) → (held : IsHeld bound (file_at files file)) → total + bound ≤ total_limit
    → total_with_bytes files path test total file ≡ Ok (total + length held.bytes)
bytes_ok files path test total file held room =
    ap (λ o. and_then (total_with_file test total) (file_within (name_below path file) o)) held.is
    ∙ ap (λ t. and_then (total_with_file test total) (cond t (Ok (Some held.bytes)) (Err (TooLarge (name_below path file) (length held.bytes))))) (fits (length held.bytes) file_limit (omega (arith, held.small)))
    ∙ ap (λ t. cond t (Ok (total + length held.bytes)) (Err (TooMuch (total + length held.bytes)))) (fits (total + length held.bytes) total_limit (omega (arith, held.small, room)))

-- the files of a test are there
pub record HasFiles (files : List TreeFile) (stem : List ℕ) : Type 0 where
  pub input : IsHeld bound (file_at files (input_path stem))
  pub answer : IsHeld bound (file_at files (answer_path stem))

-- the total is at most `most` bytes
pub record IsTotal (most : ℕ) (total : Result ℕ PackageFault) : Type 0 where
  pub bytes : ℕ
  pub is : total ≡ Ok bytes
  pub within : bytes ≤ most

test_ok : (files : List TreeFile) (path : List ℕ) (total : ℕ) (stem : List ℕ) → HasFiles files stem → total + 2 * bound ≤ total_limit → IsTotal (total + 2 * bound) (total_with_test files path total stem)
test_ok files path total stem has room = record {
  bytes = total + length has.input.bytes + length has.answer.bytes;
  is =
      ap (and_then (λ one. total_with_bytes files path (name_below (data_of path) stem) one (answer_path stem))) (bytes_ok files path (name_below (data_of path) stem) total (input_path stem) has.input (omega (arith, room)))
      ∙ bytes_ok files path (name_below (data_of path) stem) (total + length has.input.bytes) (answer_path stem) has.answer (omega (arith, room, has.input.small));
  within = omega (arith, has.input.small, has.answer.small);
}

total_ok : (files : List TreeFile) (path : List ℕ) (total : ℕ) (stems : List (List ℕ)) → Each (HasFiles files) stems → total + 2 * bound * length stems ≤ total_limit
    → IsTotal total_limit (total_from files path total stems)
total_ok files path total [] has room = record { bytes = total; is = refl; within = omega (arith, room) }
total_ok files path total (stem ∷ stems) has room =
    let one = test_ok files path total stem has.0 (omega (arith, room)) in
    let more = total_ok files path one.bytes stems has.1 (omega (arith, room, one.within)) in
    record { bytes = more.bytes; is = ap (and_then (λ both. total_from files path both stems)) one.is ∙ more.is; within = more.within }

-- ---- tests

pub record IsSmall (test : Test) : Type 0 where
  pub input : length test.input ≤ bound
  pub answer : length test.answer ≤ bound

held_small : (held : Option (List ℕ)) → IsHeld bound held → length (unwrap_or held []) ≤ bound
held_small held is = subst (λ o. length (unwrap_or o []) ≤ bound) (sym is.is) is.small

tests_small : (files : List TreeFile) (path : List ℕ) (stems : List (List ℕ)) → Each (HasFiles files) stems → Each IsSmall (map (test_at files path) stems)
tests_small files path [] has = tt
tests_small files path (stem ∷ stems) has =
    (record { input = held_small _ has.0.input; answer = held_small _ has.0.answer }, tests_small files path stems has.1)

tests_count : {X Y : Type 0} (f : X → Y) (xs : List X) → length (map f xs) ≡ length xs
tests_count f [] = refl
tests_count f (x ∷ xs) = ap suc (tests_count f xs)

not_wide : (answer : List ℕ) → wide_token_of no_flags answer ≡ None
unfolding wide_token_of
not_wide answer = refl

checked : (tests : List Test) → default_check no_flags tests ≡ Ok (Default no_flags)
checked [] = refl
checked (test ∷ tests) = ap (λ o. wide_or o test.name (default_check no_flags tests)) (not_wide test.answer) ∙ checked tests

-- ---- the package

flags_are : (v : Validation) (flags : List ℕ) → v ≡ validation.Default → flags ≡ [] → flags_by v flags ≡ Ok (Some no_flags)
flags_are v flags plain none = ap (λ f. flags_by v f) none ∙ ap (λ w. flags_by w []) plain

-- a package of a few small tests
pub record IsSmallPackage (read : Result Package PackageFault) : Type 0 where
  pub contents : Package
  pub is : read ≡ Ok contents
  pub few : length contents.tests ≤ 5
  pub small : Each IsSmall contents.tests

pub package_is : (files : List TreeFile) (path yaml : List ℕ) (ips : ℕ) (stems : List (List ℕ)) → file_at files (in_folder path (codes "problem.yaml")) ≡ Some yaml → length yaml ≤ bound → IsPlain (yaml_of yaml)
    → file_at files (in_folder path (codes "domjudge-problem.ini")) ≡ Some limit_text
    → stems_of (data_of path) (paths_below (data_of path) files) ≡ Ok stems → length stems ≤ 5 → Each (HasFiles files) stems
    → IsSmallPackage (package_of files path ips)
unfolding package_of
package_is files path yaml ips stems yaml_there yaml_small plain limit_there found few has =
    let settings = plain.yaml in
    let tests = map (test_at files path) stems in
    let total = total_ok files path 0 stems has (omega (arith, few)) in
    let contents : Package = record { name = settings.name; tests = tests; limits = limits_of settings 10 ips; check = Default no_flags } in
    let yaml_read : yaml_in files path ≡ Ok settings = ap (and_then yaml_said) (read_is files path (codes "problem.yaml") yaml yaml_there yaml_small) ∙ ap yaml_or_fault plain.is in
    let limit_read : limit_in files path ≡ Ok 10 = ap (and_then limit_said) (read_is files path (codes "domjudge-problem.ini") limit_text limit_there (omega arith)) ∙ ap limit_or_fault limit_is in
    let tests_read : and_then (tests_in files path) (stems_of (data_of path) (paths_below (data_of path) files)) ≡ Ok tests =
    ap (and_then (tests_in files path)) found ∙ ap (and_then (λ _. Ok tests)) total.is in
    record {
      contents = contents;
      is =
          ap (and_then (with_yaml files path ips)) yaml_read
          ∙ ap (and_then (λ ms. and_then (with_flags files path ips settings ms) (flags_by settings.validation settings.flags))) limit_read
          ∙ ap (and_then (with_flags files path ips settings 10)) (flags_are settings.validation settings.flags plain.validation plain.flags)
          ∙ ap (and_then (with_tests files path ips settings 10 (Some no_flags))) tests_read
          ∙ ap (and_then (λ check. Ok (record { name = settings.name; tests = tests; limits = limits_of settings 10 ips; check = check }))) (checked tests);
      few = omega (arith, few, tests_count (test_at files path) stems);
      small = tests_small files path stems has;
    }
