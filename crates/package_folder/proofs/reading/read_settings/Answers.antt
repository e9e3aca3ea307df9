use Rattle.std.proofs.Common.{◌≡◌, List, ℕ, Option, Some, None, Result, Ok, Err, codes, refl, sym, ap, subst, ◌∙◌, rules}
use Rattle.farm_tree.specs.Listing.{in_folder}
use Rattle.farm_tree.specs.Reading.{file_at}
use Rattle.problem_settings.specs.declared.yaml.YamlFault.{YamlFault}
use Rattle.problem_settings.specs.declared.yaml.YamlFault.TheVariants.{Bad}
use Rattle.problem_settings.specs.ProblemYaml.{yaml_of, Reads}
use Rattle.package_folder.specs.declared.package.PackageFault.TheVariants as fault
use Rattle.package_folder.specs.Told.{Answers}
use Rattle.package_folder.specs.Reading.{yaml_said, yaml_or_fault, file_within}
use Rattle.package_folder.proofs.Answering.{file_err, file_ok}
use Rattle.package_folder.proofs.reading.read_settings.Goals as goal

pub returns-in_err-bytes-clause-yaml : goal.returns-in_err-bytes-clause-yaml
returns-in_err-bytes-clause-yaml g c = λ files told.
    let is : c.from_residual-in_err-bytes.result ≡ Err c.in_err-bytes.field-0.0 = search rules in
    let path : c.as_str.result.now ≡ in_folder c.args.path.now (codes "problem.yaml") = c.as_str.ensures.value ∙ c.in_ok-file.ensures in
    rw is (file_err c.in_err-bytes.field-0.0 (codes "problem.yaml") c.as_str.result.now _ files yaml_said path (c.in_err-bytes.ensures.file files told))

pub returns-in_default-clause-yaml : goal.returns-in_default-clause-yaml
returns-in_default-clause-yaml g c = λ files told.
    let path : c.as_str.result.now ≡ in_folder c.args.path.now (codes "problem.yaml") = c.as_str.ensures.value ∙ c.in_ok-file.ensures in
    let file = rw c.in_default.is at (c.in_ok-bytes.ensures.file files told) in
    file_ok None (codes "problem.yaml") c.as_str.result.now _ files yaml_said (Err fault.NoYaml) path file (λ going. refl)

pub returns-in-Ok-clause-yaml : goal.returns-in-Ok-clause-yaml
returns-in-Ok-clause-yaml g c = λ files told.
    let path : c.as_str.result.now ≡ in_folder c.args.path.now (codes "problem.yaml") = c.as_str.ensures.value ∙ c.in_ok-file.ensures in
    let file = rw c.in-Some.is at (c.in_ok-bytes.ensures.file files told) in
    let said = rw c.as_slice.ensures at c.in-Ok.ensures.said in
    file_ok (Some c.in-Some.bytes) (codes "problem.yaml") c.as_str.result.now _ files yaml_said (Ok c.in-Ok.yaml) path file (λ going. sym (ap yaml_or_fault said))

pub returns-in-Err-Bad-clause-yaml : goal.returns-in-Err-Bad-clause-yaml
returns-in-Err-Bad-clause-yaml g c = λ files told.
    let path : c.as_str.result.now ≡ in_folder c.args.path.now (codes "problem.yaml") = c.as_str.ensures.value ∙ c.in_ok-file.ensures in
    let file = rw c.in-Some.is at (c.in_ok-bytes.ensures.file files told) in
    let line = c.in-Err-Bad.line in
    let why = c.in-Err-Bad.why in
    let bad = subst (λ (e : YamlFault). Reads (yaml_of c.as_slice.result.now) (Err e)) c.in-Err-Bad.field-0-is c.in-Err-Bad.ensures.said in
    let said = subst (λ (text : List ℕ). Reads (yaml_of text) (Err (Bad line why))) c.as_slice.ensures bad in
    file_ok (Some c.in-Some.bytes) (codes "problem.yaml") c.as_str.result.now _ files yaml_said (Err (fault.Yaml c.in-Err-Bad.line c.in-Err-Bad.why)) path file
    (λ going. sym (ap yaml_or_fault said))
