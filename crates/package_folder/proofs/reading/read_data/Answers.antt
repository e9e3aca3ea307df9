use Rattle.std.proofs.Common.{◌≡◌, List, ℕ, Result, Ok, Err, refl, sym, ap, subst, subst₂, ◌∙◌, rules, arith}
use Rattle.std.proofs.lemmas.Grind.{common_steps}
use Rattle.farm_tree.specs.declared.reads.TreeFile.{TreeFile}
use Rattle.package_folder.specs.declared.package.Test.{Test}
use Rattle.package_folder.specs.declared.package.PackageFault.{PackageFault}
use Rattle.package_folder.specs.Told.{Answers}
use Rattle.package_folder.specs.Paths.{texts}
use Rattle.package_folder.specs.Names.{paths_below, stems_of}
use Rattle.package_folder.specs.Reading.{data_of, tests_in}
use Rattle.package_folder.specs.Package.{data_in}
use Rattle.package_folder.proofs.Answering.{err_then, ok_then}
use Rattle.package_folder.proofs.reading.read_data.Goals as goal

pub returns-in_err-stems-clause-tests : goal.returns-in_err-stems-clause-tests
returns-in_err-stems-clause-tests g c = λ files told.
    let below = data_of c.args.path.now in
    let e = c.in_err-stems.field-0.0 in
    let is : c.from_residual-in_err-stems.result ≡ Err e = search rules in
    let walked : c.as_str.result.now ≡ below = c.as_str.ensures.value ∙ c.in_ok-folder.ensures in
    let held : c.as_str-2.result.now ≡ below = c.as_str-2.ensures.value ∙ c.in_ok-folder.ensures in
    let paths : c.in_ok-paths.paths ≡ paths_below below files = c.in_ok-paths.ensures.paths files told ∙ ap (λ (d : List ℕ). paths_below d files) walked in
    let stems = subst₂ (λ (d : List ℕ) (ps : List (List ℕ)). Answers {A = List (List ℕ)} (Err e) (stems_of d ps)) held paths c.in_err-stems.ensures.stems in
    rw is (err_then e (stems_of below (paths_below below files)) (tests_in files c.args.path.now) stems)

pub returns-clause-tests : goal.returns-clause-tests
returns-clause-tests g c = λ files told.
    let below = data_of c.args.path.now in
    let found = c.in_ok-stems.stems in
    let walked : c.as_str.result.now ≡ below = c.as_str.ensures.value ∙ c.in_ok-folder.ensures in
    let held : c.as_str-2.result.now ≡ below = c.as_str-2.ensures.value ∙ c.in_ok-folder.ensures in
    let paths : c.in_ok-paths.paths ≡ paths_below below files = c.in_ok-paths.ensures.paths files told ∙ ap (λ (d : List ℕ). paths_below d files) walked in
    let stems = subst₂ (λ (d : List ℕ) (ps : List (List ℕ)). Answers (Ok found) (stems_of d ps)) held paths c.in_ok-stems.ensures.stems in
    let tests = subst (λ (ts : List (List ℕ)). Answers {A = List Test} c.read_tests.result (tests_in files c.args.path.now ts)) c.as_slice.ensures
    (c.read_tests.ensures.tests files (c.in_ok-paths.ensures.same ∙ told)) in
    ok_then found (stems_of below (paths_below below files)) (tests_in files c.args.path.now) c.read_tests.result stems tests

pub returns-clause-some : goal.returns-clause-some
returns-clause-some g c = grind (arith, common_steps)

pub returns-clause-few : goal.returns-clause-few
returns-clause-few g c = grind (arith, common_steps)
