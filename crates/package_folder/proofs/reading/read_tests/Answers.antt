use Rattle.std.proofs.Common.{◌≡◌, ◌+◌, ◌∷◌, ◌++◌, [], List, ℕ, Option, Some, None, Result, Ok, Err, drop, take, map, length, string_bytes, refl, sym, ap, subst, ◌∙◌, arith, rules, add-one, suc, length-append}
use Rattle.std.proofs.lemmas.Grind.{common_steps}
use Rattle.package_folder.specs.Told.{Answers}
use Rattle.package_folder.specs.Paths.{texts}
use Rattle.package_folder.specs.Reading.{and_then, total_from, total_with_test, test_at}
use Rattle.package_folder.specs.declared.package.PackageFault.{PackageFault}
use Rattle.package_folder.specs.declared.package.Test.{Test}
use Rattle.package_folder.proofs.Answering.{err_then}
use Rattle.package_folder.proofs.Strings.{drop_text, map_step}
use Rattle.package_folder.proofs.reading.read_tests.Goals as goal

pub returns-in_err-test-clause-tests : goal.returns-in_err-test-clause-tests
returns-in_err-test-clause-tests g c = λ files told.
    let stems = c.args.stems.now in
    let item = c.stem-item.result in
    let at = c.loop-stem.stem-index in
    let path = c.args.path.now in
    let total = c.loop-stem.total in
    let e = c.in_err-test.field-0.0 in
    let is : c.from_residual.result ≡ Err e = search rules in
    let named : c.as_str.result.now ≡ string_bytes item = c.as_str.ensures.value in
    let cut : drop at (texts stems) ≡ c.as_str.result.now ∷ drop (at + 1) (texts stems) =
    rw (named, add-one) (drop_text stems at item c.loop-stem-test.true c.stem-item.is) in
    let step = c.in_err-test.ensures.total files (c.loop-stem.invariant.same ∙ told) in
    let whole = err_then e (total_with_test files path total c.as_str.result.now) (λ (both : ℕ). total_from files path both (drop (at + 1) (texts stems))) step in
    let all = subst (λ (r : Result ℕ PackageFault). Answers {A = ℕ} (Err e) r) (ap (total_from files path total) (sym cut) ∙ c.loop-stem.invariant.total files told) whole in
    rw is (err_then e (total_from files path 0 (texts stems)) (λ (_ : ℕ). Ok (map (test_at files path) (texts stems))) all)

pub loop-stem-preserved : goal.loop-stem-preserved
loop-stem-preserved g c =
    let stems = c.args.stems.now in
    let item = c.stem-item.result in
    let at = c.loop-stem.stem-index in
    let path = c.args.path.now in
    let total = c.loop-stem.total in
    let test = c.in_ok-test.test in
    let named : c.as_str.result.now ≡ string_bytes item = c.as_str.ensures.value in
    let pushed : c.push.new.self ≡ c.loop-stem.tests ++ test ∷ [] = search rules in
    let cut : drop at (texts stems) ≡ c.as_str.result.now ∷ drop (at + 1) (texts stems) =
    rw (named, add-one) (drop_text stems at item c.loop-stem-test.true c.stem-item.is) in
    record {
      tests = λ files told.
          let one : test ≡ test_at files path (string_bytes item) = c.in_ok-test.ensures.test files (c.loop-stem.invariant.same ∙ told) ∙ ap (test_at files path) named in
          pushed ∙ ap (λ (ts : List Test). ts ++ test ∷ []) (c.loop-stem.invariant.tests files told)
          ∙ ap (λ (t : Test). map (test_at files path) (take at (texts stems)) ++ t ∷ []) one
          ∙ sym (map_step (test_at files path) stems at item c.loop-stem-test.true c.stem-item.is);
      total = λ files told.
          let one : Ok c.read_test.new.total ≡ total_with_test files path total c.as_str.result.now = c.in_ok-test.ensures.total files (c.loop-stem.invariant.same ∙ told) (λ stop. stop) in
          ap (and_then (λ (both : ℕ). total_from files path both (drop (at + 1) (texts stems)))) one
          ∙ ap (total_from files path total) (sym cut) ∙ c.loop-stem.invariant.total files told;
      bound = c.in_ok-test.ensures.bound;
      count = let h = ap (λ (ts : List Test). length ts) pushed in omega (arith, h, length-append {A = Test}, c.loop-stem.invariant.count);
      same = c.in_ok-test.ensures.same ∙ c.loop-stem.invariant.same;
      first = c.in_ok-test.ensures.first (λ e. cc) ∙ c.loop-stem.invariant.first;
    }

pub returns-clause-tests : goal.returns-clause-tests
returns-clause-tests g c = grind (arith, common_steps)
