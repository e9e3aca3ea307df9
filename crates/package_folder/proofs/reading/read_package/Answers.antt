use Rattle.std.proofs.Common.{◌≡◌, List, ℕ, Option, Some, None, Result, Ok, Err, codes, refl, sym, ap, subst, subst₂, ◌∙◌, rules}
use Rattle.farm_tree.specs.declared.reads.TreeFile.{TreeFile}
use Rattle.default_validator.specs.declared.flags.Flags.{Flags}
use Rattle.problem_settings.specs.declared.yaml.Yaml.{Yaml}
use Rattle.problem_settings.specs.MachineLimits.{limits_of}
use Rattle.package_folder.specs.declared.package.Test.{Test}
use Rattle.package_folder.specs.declared.package.Checker.{Checker}
use Rattle.package_folder.specs.declared.package.Package.{Package}
use Rattle.package_folder.specs.declared.package.PackageFault.{PackageFault}
use Rattle.package_folder.specs.Told.{Answers}
use Rattle.package_folder.specs.Paths.{texts}
use Rattle.package_folder.specs.Names.{paths_below, stems_of}
use Rattle.package_folder.specs.Reading.{and_then, yaml_in, limit_in, flags_by, data_of, tests_in, check_by}
use Rattle.package_folder.specs.Package.{package_of, data_in, with_yaml, with_flags, with_tests}
use Rattle.package_folder.proofs.Answering.{err_then, ok_then}
use Rattle.package_folder.proofs.reading.read_package.Goals as goal

err_yaml : (files : List TreeFile) (path : List ℕ) (ips : ℕ) (e : PackageFault) → Answers {A = Yaml} (Err e) (yaml_in files path)
    → Answers {A = Package} (Err e) (package_of files path ips)
unfolding package_of
err_yaml files path ips e h = err_then e (yaml_in files path) (with_yaml files path ips) h

after_yaml : (files : List TreeFile) (path : List ℕ) (ips : ℕ) (yaml : Yaml) (r : Result Package PackageFault) → Answers (Ok yaml) (yaml_in files path)
    → Answers r (with_yaml files path ips yaml) → Answers r (package_of files path ips)
unfolding package_of
after_yaml files path ips yaml r h more = ok_then yaml (yaml_in files path) (with_yaml files path ips) r h more

-- what is left once the flags are read
abbrev Rest : List TreeFile → List ℕ → ℕ → Yaml → ℕ → Result (Option Flags) PackageFault → Result Package PackageFault
Rest files path ips yaml ms flags = and_then (with_flags files path ips yaml ms) flags

err_ms : (files : List TreeFile) (path : List ℕ) (ips : ℕ) (yaml : Yaml) (e : PackageFault) → Answers {A = ℕ} (Err e) (limit_in files path)
    → Answers {A = Package} (Err e) (with_yaml files path ips yaml)
err_ms files path ips yaml e h = err_then e (limit_in files path) (λ (ms : ℕ). Rest files path ips yaml ms (flags_by yaml.validation yaml.flags)) h

after_ms : (files : List TreeFile) (path : List ℕ) (ips : ℕ) (yaml : Yaml) (ms : ℕ) (r : Result Package PackageFault) → Answers (Ok ms) (limit_in files path)
    → Answers r (Rest files path ips yaml ms (flags_by yaml.validation yaml.flags)) → Answers r (with_yaml files path ips yaml)
after_ms files path ips yaml ms r h more = ok_then ms (limit_in files path) (λ (n : ℕ). Rest files path ips yaml n (flags_by yaml.validation yaml.flags)) r h more

after_flags : (files : List TreeFile) (path : List ℕ) (ips : ℕ) (yaml : Yaml) (ms : ℕ) (flags : Option Flags) (r : Result Package PackageFault)
    → Ok flags ≡ flags_by yaml.validation yaml.flags → Answers r (with_flags files path ips yaml ms flags) → Answers r (Rest files path ips yaml ms (flags_by yaml.validation yaml.flags))
after_flags files path ips yaml ms flags r h more = λ going. more going ∙ ap (Rest files path ips yaml ms) h

err_tests : (files : List TreeFile) (path : List ℕ) (ips : ℕ) (yaml : Yaml) (ms : ℕ) (flags : Option Flags) (e : PackageFault)
    → Answers {A = List Test} (Err e) (data_in files path) → Answers {A = Package} (Err e) (with_flags files path ips yaml ms flags)
err_tests files path ips yaml ms flags e h = err_then e (data_in files path) (with_tests files path ips yaml ms flags) h

after_tests : (files : List TreeFile) (path : List ℕ) (ips : ℕ) (yaml : Yaml) (ms : ℕ) (flags : Option Flags) (tests : List Test) (r : Result Package PackageFault)
    → Answers (Ok tests) (data_in files path) → Answers r (with_tests files path ips yaml ms flags tests) → Answers r (with_flags files path ips yaml ms flags)
after_tests files path ips yaml ms flags tests r h more = ok_then tests (data_in files path) (with_tests files path ips yaml ms flags) r h more

err_check : (files : List TreeFile) (path : List ℕ) (ips : ℕ) (yaml : Yaml) (ms : ℕ) (flags : Option Flags) (tests : List Test) (e : PackageFault)
    → Answers {A = Checker} (Err e) (check_by files path yaml.flags flags tests) → Answers {A = Package} (Err e) (with_tests files path ips yaml ms flags tests)
err_check files path ips yaml ms flags tests e h =
    err_then e (check_by files path yaml.flags flags tests)
    (λ (check : Checker). Ok (let p : Package = record { name = yaml.name; tests = tests; limits = limits_of yaml ms ips; check = check } in p)) h

after_check : (files : List TreeFile) (path : List ℕ) (ips : ℕ) (yaml : Yaml) (ms : ℕ) (flags : Option Flags) (tests : List Test) (check : Checker)
    → Answers (Ok check) (check_by files path yaml.flags flags tests)
    → Answers (Ok (let p : Package = record { name = yaml.name; tests = tests; limits = limits_of yaml ms ips; check = check } in p)) (with_tests files path ips yaml ms flags tests)
after_check files path ips yaml ms flags tests check h =
    ok_then check (check_by files path yaml.flags flags tests)
    (λ (c : Checker). Ok (let p : Package = record { name = yaml.name; tests = tests; limits = limits_of yaml ms ips; check = c } in p)) _ h (λ going. refl)

pub returns-in_err-yaml-clause-package : goal.returns-in_err-yaml-clause-package
returns-in_err-yaml-clause-package g c = λ files told.
    let e = c.in_err-yaml.field-0.0 in
    let is : c.from_residual.result ≡ Err e = search rules in
    rw is (err_yaml files c.args.path.now c.args.ips e (c.in_err-yaml.ensures.yaml files told))

pub returns-in_err-ms-clause-package : goal.returns-in_err-ms-clause-package
returns-in_err-ms-clause-package g c = λ files told.
    let path = c.args.path.now in
    let yaml = c.in_ok-yaml.yaml in
    let e = c.in_err-ms.field-0.0 in
    let is : c.from_residual-in_err-ms.result ≡ Err e = search rules in
    rw is (after_yaml files path c.args.ips yaml (Err e) (c.in_ok-yaml.ensures.yaml files told)
    (err_ms files path c.args.ips yaml e (c.in_err-ms.ensures.limit files (c.in_ok-yaml.ensures.same ∙ told))))

pub returns-in_err-flags-clause-package : goal.returns-in_err-flags-clause-package
returns-in_err-flags-clause-package g c = λ files told.
    let path = c.args.path.now in
    let yaml = c.in_ok-yaml.yaml in
    let ms = c.in_ok-ms.ms in
    let e = c.in_err-flags.field-0.0 in
    let is : c.from_residual-in_err-flags.result ≡ Err e = search rules in
    rw is (after_yaml files path c.args.ips yaml (Err e) (c.in_ok-yaml.ensures.yaml files told)
    (after_ms files path c.args.ips yaml ms (Err e) (c.in_ok-ms.ensures.limit files (c.in_ok-yaml.ensures.same ∙ told))
    (λ going. ap (Rest files path c.args.ips yaml ms) c.in_err-flags.ensures.flags)))

pub returns-in_err-tests-clause-package : goal.returns-in_err-tests-clause-package
returns-in_err-tests-clause-package g c = λ files told.
    let path = c.args.path.now in
    let yaml = c.in_ok-yaml.yaml in
    let ms = c.in_ok-ms.ms in
    let flags = c.in_ok-flags.flags in
    let e = c.in_err-tests.field-0.0 in
    let is : c.from_residual-in_err-tests.result ≡ Err e = search rules in
    let told1 = c.in_ok-yaml.ensures.same ∙ told in
    let told2 = c.in_ok-ms.ensures.same ∙ told1 in
    rw is (after_yaml files path c.args.ips yaml (Err e) (c.in_ok-yaml.ensures.yaml files told)
    (after_ms files path c.args.ips yaml ms (Err e) (c.in_ok-ms.ensures.limit files told1)
    (after_flags files path c.args.ips yaml ms flags (Err e) c.in_ok-flags.ensures.flags
    (err_tests files path c.args.ips yaml ms flags e (c.in_err-tests.ensures.tests files told2)))))

pub returns-in_err-check-clause-package : goal.returns-in_err-check-clause-package
returns-in_err-check-clause-package g c = λ files told.
    let path = c.args.path.now in
    let yaml = c.in_ok-yaml.yaml in
    let ms = c.in_ok-ms.ms in
    let flags = c.in_ok-flags.flags in
    let tests = c.in_ok-tests.tests in
    let e = c.in_err-check.field-0.0 in
    let is : c.from_residual-in_err-check.result ≡ Err e = search rules in
    let told1 = c.in_ok-yaml.ensures.same ∙ told in
    let told2 = c.in_ok-ms.ensures.same ∙ told1 in
    let told3 = c.in_ok-tests.ensures.same ∙ told2 in
    rw is (after_yaml files path c.args.ips yaml (Err e) (c.in_ok-yaml.ensures.yaml files told)
    (after_ms files path c.args.ips yaml ms (Err e) (c.in_ok-ms.ensures.limit files told1)
    (after_flags files path c.args.ips yaml ms flags (Err e) c.in_ok-flags.ensures.flags
    (after_tests files path c.args.ips yaml ms flags tests (Err e) (c.in_ok-tests.ensures.tests files told2)
    (err_check files path c.args.ips yaml ms flags tests e (c.in_err-check.ensures.check files told3))))))

pub returns-clause-package : goal.returns-clause-package
returns-clause-package g c = λ files told.
    let path = c.args.path.now in
    let yaml = c.in_ok-yaml.yaml in
    let ms = c.in_ok-ms.ms in
    let flags = c.in_ok-flags.flags in
    let tests = c.in_ok-tests.tests in
    let told1 = c.in_ok-yaml.ensures.same ∙ told in
    let told2 = c.in_ok-ms.ensures.same ∙ told1 in
    let told3 = c.in_ok-tests.ensures.same ∙ told2 in
    after_yaml files path c.args.ips yaml _ (c.in_ok-yaml.ensures.yaml files told)
    (after_ms files path c.args.ips yaml ms _ (c.in_ok-ms.ensures.limit files told1)
    (after_flags files path c.args.ips yaml ms flags _ c.in_ok-flags.ensures.flags
    (after_tests files path c.args.ips yaml ms flags tests _ (c.in_ok-tests.ensures.tests files told2)
    (rw c.limits-limits.ensures (after_check files path c.args.ips yaml ms flags tests c.in_ok-check.check (c.in_ok-check.ensures.check files told3))))))
