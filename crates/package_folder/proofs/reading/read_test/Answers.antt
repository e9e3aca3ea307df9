use Rattle.std.proofs.Common.{◌≡◌, ◌++◌, List, ℕ, Result, Ok, Err, codes, refl, sym, ap, subst, ◌∙◌, rules}
use Rattle.farm_tree.specs.declared.reads.TreeFile.{TreeFile}
use Rattle.package_folder.specs.declared.package.PackageFault.{PackageFault}
use Rattle.package_folder.specs.Told.{Answers}
use Rattle.package_folder.specs.Names.{name_below, input_path, answer_path}
use Rattle.package_folder.specs.Reading.{and_then, data_of, total_with_bytes, total_with_test}
use Rattle.package_folder.proofs.Answering.{err_then, ok_then}
use Rattle.package_folder.proofs.reading.read_test.Goals as goal

-- the total with the input's bytes, and then with the answer's, where the name and the paths are the test's
at_input : (files : List TreeFile) (path stem name input : List ℕ) (total : ℕ) (e : PackageFault) → name ≡ name_below (data_of path) stem → input ≡ input_path stem
    → Answers {A = ℕ} (Err e) (total_with_bytes files path name total input) → Answers {A = ℕ} (Err e) (total_with_test files path total stem)
at_input files path stem name input total e named at h =
    let first : Answers {A = ℕ} (Err e) (total_with_bytes files path (name_below (data_of path) stem) total (input_path stem)) = rw (← named, ← at) h in
    err_then e (total_with_bytes files path (name_below (data_of path) stem) total (input_path stem))
    (λ one. total_with_bytes files path (name_below (data_of path) stem) one (answer_path stem)) first

at_answer : (files : List TreeFile) (path stem name input answer : List ℕ) (total one : ℕ) (r : Result ℕ PackageFault)
    → name ≡ name_below (data_of path) stem → input ≡ input_path stem → answer ≡ answer_path stem
    → Answers (Ok one) (total_with_bytes files path name total input) → Answers r (total_with_bytes files path name one answer)
    → Answers r (total_with_test files path total stem)
at_answer files path stem name input answer total one r named at there h more =
    let first : Answers (Ok one) (total_with_bytes files path (name_below (data_of path) stem) total (input_path stem)) = rw (← named, ← at) h in
    let second : Answers r (total_with_bytes files path (name_below (data_of path) stem) one (answer_path stem)) = rw (← named, ← there) more in
    ok_then one (total_with_bytes files path (name_below (data_of path) stem) total (input_path stem))
    (λ n. total_with_bytes files path (name_below (data_of path) stem) n (answer_path stem)) r first second

pub returns-in_err-input-2-clause-total : goal.returns-in_err-input-2-clause-total
returns-in_err-input-2-clause-total g c = λ files told.
    let path = c.args.path.now in
    let stem = c.args.stem.now in
    let e = c.in_err-input-2.field-0.0 in
    let is : c.from_residual-in_err-input-2.result ≡ Err e = search rules in
    let named : c.in_ok-name.name ≡ name_below (data_of path) stem = c.in_ok-name.ensures ∙ ap (λ (d : List ℕ). name_below d stem) c.requires.folder in
    let at : c.as_str.result.now ≡ input_path stem = c.as_str.ensures.value ∙ c.in_ok-input.ensures in
    rw is (at_input files path stem c.in_ok-name.name c.as_str.result.now c.args.total.now e named at (c.in_err-input-2.ensures.total files told))

pub returns-in_err-answer-2-clause-total : goal.returns-in_err-answer-2-clause-total
returns-in_err-answer-2-clause-total g c = λ files told.
    let path = c.args.path.now in
    let stem = c.args.stem.now in
    let e = c.in_err-answer-2.field-0.0 in
    let is : c.from_residual-in_err-answer-2.result ≡ Err e = search rules in
    let named : c.in_ok-name.name ≡ name_below (data_of path) stem = c.in_ok-name.ensures ∙ ap (λ (d : List ℕ). name_below d stem) c.requires.folder in
    let at : c.as_str.result.now ≡ input_path stem = c.as_str.ensures.value ∙ c.in_ok-input.ensures in
    let there : c.as_str-2.result.now ≡ answer_path stem = c.as_str-2.ensures.value ∙ c.in_ok-answer.ensures in
    rw is (at_answer files path stem c.in_ok-name.name c.as_str.result.now c.as_str-2.result.now c.args.total.now c.read_test_file.new.total (Err e) named at there
    (c.in_ok-input-2.ensures.total files told) (c.in_err-answer-2.ensures.total files (c.in_ok-input-2.ensures.same ∙ told)))
