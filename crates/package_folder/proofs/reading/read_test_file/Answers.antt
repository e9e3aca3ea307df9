use Rattle.std.proofs.Common.{◌≡◌, ◌+◌, ◌≤◌, List, ℕ, length, Option, Some, None, Result, Ok, Err, refl, sym, ap, ◌∙◌, arith, rules}
use Rattle.std.proofs.lemmas.Bool.Decides.{nat_tests}
use Rattle.farm_tree.specs.Reading.{file_at}
use Rattle.package_folder.specs.declared.package.PackageFault.TheVariants as fault
use Rattle.package_folder.specs.declared.package.PackageFault.{PackageFault}
use Rattle.package_folder.specs.Names.{name_below}
use Rattle.package_folder.specs.Reading.{total_limit, total_within, total_with_file, file_within}
use Rattle.package_folder.proofs.Answering.{err_then, ok_then}
use Rattle.package_folder.proofs.reading.read_test_file.Goals as goal

fitting : (total : ℕ) (bytes shown : List ℕ) → shown ≡ bytes → total + length shown ≤ total_limit
    → ◌≡◌ {A = Result ℕ PackageFault} (Ok (total + length shown)) (total_within (total + length bytes))
fitting total bytes shown e h = grind (arith, nat_tests)

pub returns-in_err-bytes-clause-total : goal.returns-in_err-bytes-clause-total
returns-in_err-bytes-clause-total g c = λ files told.
    let file = c.args.file.now in
    let name = name_below c.args.path.now file in
    let e = c.in_err-bytes.field-0.0 in
    let is : c.from_residual-in_err-bytes.result ≡ Err e = search rules in
    let named : c.as_slice.result.now ≡ name = c.as_slice.ensures ∙ c.in_ok-name.ensures in
    rw is (err_then e (file_within name (file_at files file)) (total_with_file c.args.test.now c.args.total.now)
    (rw named at (c.in_err-bytes.ensures.file files told)))

pub returns-in_default-clause-total : goal.returns-in_default-clause-total
returns-in_default-clause-total g c = λ files told.
    let file = c.args.file.now in
    let name = name_below c.args.path.now file in
    let named : c.as_slice.result.now ≡ name = c.as_slice.ensures ∙ c.in_ok-name.ensures in
    let copied : c.in_ok-copy.field-0 ≡ c.args.test.now = search rules in
    let none = rw c.in_default.is at (rw named at (c.in_ok-bytes.ensures.file files told)) in
    ok_then None (file_within name (file_at files file)) (total_with_file c.args.test.now c.args.total.now) (Err (fault.MissingAnswer c.in_ok-copy.field-0)) none
    (λ going. ap (λ (n : List ℕ). Err (fault.MissingAnswer n)) copied)

pub returns-clause-total : goal.returns-clause-total
returns-clause-total g c = λ files told.
    let file = c.args.file.now in
    let name = name_below c.args.path.now file in
    let named : c.as_slice.result.now ≡ name = c.as_slice.ensures ∙ c.in_ok-name.ensures in
    let bytes = c.in-Some.bytes in
    let some = rw c.in-Some.is at (rw named at (c.in_ok-bytes.ensures.file files told)) in
    let fits : c.args.total.now + length c.as_slice-2.result.now ≤ total_limit = omega arith in
    let more : Ok (c.args.total.now + length c.as_slice-2.result.now) ≡ total_within (c.args.total.now + length bytes) = fitting c.args.total.now bytes c.as_slice-2.result.now c.as_slice-2.ensures fits in
    ok_then (Some bytes) (file_within name (file_at files file)) (total_with_file c.args.test.now c.args.total.now) (Ok (c.args.total.now + length c.as_slice-2.result.now)) some
    (λ going. more)
