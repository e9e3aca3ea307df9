use Rattle.std.proofs.Common.{◌≡◌, sym, subst, Result, false, rules}
use Rattle.problem_settings.specs.declared.yaml.BadLine.{BadLine}
use Rattle.problem_settings.specs.Fields.{is_indented}
use Rattle.problem_settings.specs.ProblemYaml.{Said}
use Rattle.problem_settings.specs.Views.{Says, said_value, line_value, lines_at, field_value}
use Rattle.problem_settings.proofs.EntryLemmas.{known_entry}
use Rattle.problem_settings.proofs.said.Said.with_entry.Goals as goal

pub returns-in-Some-named-clause-cases : goal.returns-in-Some-named-clause-cases
returns-in-Some-named-clause-cases c =
    let said = said_value c.args.self.now in
    let head = line_value c.args.head.now in
    let field = field_value c.in-Some.field in
    let stands : is_indented head.text ≡ false = search rules in
    let same = known_entry said head (lines_at c.args.lines.now) field c.in-Some-named.key stands (sym c.in-Some.ensures) (sym c.in-Some-named.ensures) in
    subst (λ (answer : Result Said BadLine). Says said_value answer c.with_key.result) (sym same) c.with_key.ensures.cases
