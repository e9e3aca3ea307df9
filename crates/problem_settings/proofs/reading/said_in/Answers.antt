use Rattle.std.proofs.Common.{◌≡◌, ◌∷◌, ◌∙◌, sym, ap, subst, Option, arith}
use Rattle.std.specs.Prelude.{IfSome}
use Rattle.problem_settings.specs.declared.lines.Line.{Line}
use Rattle.problem_settings.specs.Entries.{entries}
use Rattle.problem_settings.specs.ProblemYaml.{said_from, belongs}
use Rattle.problem_settings.specs.Views.{said_value, line_value, lines_at}
use Rattle.problem_settings.proofs.EntryLemmas.{said_stop, said_step}
use Rattle.problem_settings.proofs.reading.said_in.Goals as goal

pub returns-in-Err-clause-cases : goal.returns-in-Err-clause-cases
returns-in-Err-clause-cases c =
    let said = said_value c.loop-left.said in
    let behind = lines_at c.next-behind.result in
    let Cut : Line → Type 0 = λ line. lines_at c.loop-left.left ≡ line_value line ∷ behind in
    let cut : Cut c.in-Some.head = subst (λ (first : Option Line). IfSome first Cut) c.in-Some.is c.next-behind.ensures in
    sym c.loop-left.invariant.said
    ∙ ap (λ lines. said_from said (entries belongs lines)) cut
    ∙ said_stop said c.in-Err.bad (line_value c.in-Some.head) behind c.in-Err.ensures.cases

pub loop-left-preserved : goal.loop-left-preserved
loop-left-preserved c = grind (arith, said_step, said_stop)
