use Rattle.std.proofs.Common.{◌≡◌, ◌∷◌, true, is_some, sym, ap, ◌∙◌, rules}
use Rattle.problem_settings.specs.Lines.{parts_behind}
use Rattle.contest_notes.specs.Notes.{said_by}
use Rattle.contest_notes.proofs.Words.{too_many_said}
use Rattle.contest_notes.proofs.programs.said_in.Goals as goal

pub returns-then-is_some-clause-said : goal.returns-then-is_some-clause-said
returns-then-is_some-clause-said c =
    let one = c.cut.ensures.parts ∙ ap (λ l. c.cut.result.0.now ∷ parts_behind 32 l) c.in_ok-left.was in
    let two = c.cut-2.ensures.parts ∙ ap (λ l. c.cut-2.result.0.now ∷ parts_behind 32 l) c.in_ok-left-2.was in
    let three = c.cut-3.ensures.parts ∙ ap (λ l. c.cut-3.result.0.now ∷ parts_behind 32 l) c.in_ok-left-3.was in
    let all = one ∙ ap (λ ws. c.cut.result.0.now ∷ ws) (two ∙ ap (λ ws. c.cut-2.result.0.now ∷ ws) (three ∙ ap (λ ws. c.cut-3.result.0.now ∷ ws) c.cut-4.ensures.parts)) in
    let more : is_some c.cut-4.result.1 ≡ true = search rules in
    sym (ap said_by all ∙ too_many_said c.cut.result.0.now c.cut-2.result.0.now c.cut-3.result.0.now c.cut-4.result.0.now c.cut-4.result.1 more)
