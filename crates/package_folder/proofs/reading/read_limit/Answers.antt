use Rattle.std.proofs.Common.{◌≡◌, List, ℕ, Option, Some, None, Result, Ok, Err, codes, refl, sym, ap, subst, ◌∙◌, rules}
use Rattle.farm_tree.specs.Listing.{in_folder}
use borrow.Enum.Total.{values_d}
use Rattle.problem_settings.specs.contracts.ini.IniFault.{enum}
use Rattle.problem_settings.specs.declared.ini.IniFault.{IniFault}
use Rattle.problem_settings.specs.declared.ini.IniFault.TheVariants.{BadLimit}
use Rattle.package_folder.specs.declared.package.PackageFault.{PackageFault}
use Rattle.package_folder.specs.declared.package.PackageFault.TheVariants as fault
use Rattle.package_folder.specs.Told.{Answers}
use Rattle.package_folder.specs.Reading.{limit_said, limit_or_fault}
use Rattle.package_folder.proofs.Answering.{file_err, file_ok}
use Rattle.package_folder.proofs.reading.read_limit.Goals as goal

bad_limit : (e : IniFault) → ◌≡◌ {A = Result ℕ PackageFault} (Err (fault.Ini (values_d enum 0 (0, tt) e).0)) (limit_or_fault (Err e))
bad_limit (BadLimit line) = refl

pub returns-in_err-bytes-clause-limit : goal.returns-in_err-bytes-clause-limit
returns-in_err-bytes-clause-limit g c = λ files told.
    let is : c.from_residual-in_err-bytes.result ≡ Err c.in_err-bytes.field-0.0 = search rules in
    let path : c.as_str.result.now ≡ in_folder c.args.path.now (codes "domjudge-problem.ini") = c.as_str.ensures.value ∙ c.in_ok-file.ensures in
    rw is (file_err c.in_err-bytes.field-0.0 (codes "domjudge-problem.ini") c.as_str.result.now _ files limit_said path (c.in_err-bytes.ensures.file files told))

pub returns-in_default-clause-limit : goal.returns-in_default-clause-limit
returns-in_default-clause-limit g c = λ files told.
    let path : c.as_str.result.now ≡ in_folder c.args.path.now (codes "domjudge-problem.ini") = c.as_str.ensures.value ∙ c.in_ok-file.ensures in
    let file = rw c.in_default.is at (c.in_ok-bytes.ensures.file files told) in
    file_ok None (codes "domjudge-problem.ini") c.as_str.result.now _ files limit_said (Ok 1000) path file (λ going. refl)

pub returns-in-Ok-clause-limit : goal.returns-in-Ok-clause-limit
returns-in-Ok-clause-limit g c = λ files told.
    let path : c.as_str.result.now ≡ in_folder c.args.path.now (codes "domjudge-problem.ini") = c.as_str.ensures.value ∙ c.in_ok-file.ensures in
    let file = rw c.in-Some.is at (c.in_ok-bytes.ensures.file files told) in
    let said = rw c.as_slice.ensures at c.in-Ok.ensures.said in
    file_ok (Some c.in-Some.bytes) (codes "domjudge-problem.ini") c.as_str.result.now _ files limit_said (Ok c.in-Ok.ms) path file (λ going. ap limit_or_fault said)

pub returns-clause-limit : goal.returns-clause-limit
returns-clause-limit g c = λ files told.
    let path : c.as_str.result.now ≡ in_folder c.args.path.now (codes "domjudge-problem.ini") = c.as_str.ensures.value ∙ c.in_ok-file.ensures in
    let file = rw c.in-Some.is at (c.in_ok-bytes.ensures.file files told) in
    let said = rw c.as_slice.ensures at c.in-Err-BadLimit.ensures.said in
    file_ok (Some c.in-Some.bytes) (codes "domjudge-problem.ini") c.as_str.result.now _ files limit_said _ path file
    (λ going. bad_limit c.in-Err-BadLimit.field-0 ∙ ap limit_or_fault said)
