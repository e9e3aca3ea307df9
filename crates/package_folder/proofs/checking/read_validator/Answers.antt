use Rattle.std.proofs.Common.{◌≡◌, List, ℕ, Option, Some, None, Result, Ok, Err, Bool, true, false, cond, codes, refl, sym, ap, subst, ◌∙◌, rules}
use Rattle.farm_kinds.specs.Limits.{is_raw_image}
use Rattle.farm_tree.specs.Listing.{in_folder}
use Rattle.package_folder.specs.declared.package.Checker.{Checker}
use Rattle.package_folder.specs.declared.package.Checker.TheVariants.{Custom}
use Rattle.package_folder.specs.declared.package.PackageFault.{PackageFault}
use Rattle.package_folder.specs.declared.package.PackageFault.TheVariants as fault
use Rattle.package_folder.specs.Told.{Answers}
use Rattle.package_folder.specs.Reading.{validator_said, image_or_fault}
use Rattle.package_folder.proofs.Answering.{file_err, file_ok}
use Rattle.package_folder.proofs.checking.read_validator.Goals as goal

image_by : (name flags bytes : List ℕ) (b : Bool) → b ≡ is_raw_image bytes
    → ◌≡◌ {A = Result Checker PackageFault} (cond b (Ok (Custom bytes flags)) (Err (fault.BadValidator name))) (image_or_fault name flags bytes)
image_by name flags bytes b e = ap (λ t. cond t (Ok (Custom bytes flags)) (Err (fault.BadValidator name))) e

pub returns-in_err-image-clause-check : goal.returns-in_err-image-clause-check
returns-in_err-image-clause-check g c = λ files told.
    let entry = c.args.entry.now in
    let name = in_folder (codes "output_validators") entry.name in
    let is : c.from_residual-in_err-image.result ≡ Err c.in_err-image.field-0.0 = search rules in
    let named : c.as_bytes.result.now ≡ name = search rules in
    let path : c.as_str-2.result.now ≡ in_folder c.args.path.now name = search rules in
    let file = rw named at (c.in_err-image.ensures.file files told) in
    rw is (file_err c.in_err-image.field-0.0 name c.as_str-2.result.now _ files (validator_said entry.name c.args.flags) path file)

pub returns-in_default-clause-check : goal.returns-in_default-clause-check
returns-in_default-clause-check g c = λ files told.
    let entry = c.args.entry.now in
    let name = in_folder (codes "output_validators") entry.name in
    let named : c.as_bytes.result.now ≡ name = search rules in
    let path : c.as_str-2.result.now ≡ in_folder c.args.path.now name = search rules in
    let file = rw c.in_default.is at (rw named at (c.in_ok-image.ensures.file files told)) in
    file_ok None name c.as_str-2.result.now _ files (validator_said entry.name c.args.flags) (Err fault.NoValidator) path file (λ going. refl)

pub returns-then-not-raw_image-clause-check : goal.returns-then-not-raw_image-clause-check
returns-then-not-raw_image-clause-check g c = λ files told.
    let entry = c.args.entry.now in
    let name = in_folder (codes "output_validators") entry.name in
    let named : c.as_bytes.result.now ≡ name = search rules in
    let path : c.as_str-2.result.now ≡ in_folder c.args.path.now name = search rules in
    let file = rw c.in-Some.is at (rw named at (c.in_ok-image.ensures.file files told)) in
    let raw : false ≡ is_raw_image c.in-Some.image = search rules in
    let shown : c.in_ok-name.name ≡ entry.name = search rules in
    file_ok (Some c.in-Some.image) name c.as_str-2.result.now _ files (validator_said entry.name c.args.flags) (Err (fault.BadValidator c.in_ok-name.name)) path file
    (λ going. ap (λ (n : List ℕ). Err (fault.BadValidator n)) shown ∙ image_by entry.name c.args.flags c.in-Some.image false raw)

pub returns-clause-check : goal.returns-clause-check
returns-clause-check g c = λ files told.
    let entry = c.args.entry.now in
    let name = in_folder (codes "output_validators") entry.name in
    let named : c.as_bytes.result.now ≡ name = search rules in
    let path : c.as_str-2.result.now ≡ in_folder c.args.path.now name = search rules in
    let file = rw c.in-Some.is at (rw named at (c.in_ok-image.ensures.file files told)) in
    let raw : true ≡ is_raw_image c.in-Some.image = search rules in
    file_ok (Some c.in-Some.image) name c.as_str-2.result.now _ files (validator_said entry.name c.args.flags) (Ok (Custom c.in-Some.image c.args.flags)) path file
    (λ going. image_by entry.name c.args.flags c.in-Some.image true raw)
