use Rattle.std.proofs.Common.{◌≡◌, ◌∷◌, true, is_some, sym, ap, ◌∙◌, rules}
use Rattle.problem_settings.specs.Lines.{parts_behind}
use Rattle.contest_notes.specs.Mistakes.{mistake_of_words}
use Rattle.contest_notes.proofs.Words.{too_many}
use Rattle.contest_notes.proofs.mistakes.mistake_of_words.Goals as goal

pub returns-then-is_some : goal.returns-then-is_some
returns-then-is_some c =
    let one = c.cut.ensures.parts ∙ ap (λ l. c.cut.result.0.now ∷ parts_behind 32 l) c.in-Some.is in
    let two = c.cut-2.ensures.parts ∙ ap (λ l. c.cut-2.result.0.now ∷ parts_behind 32 l) c.in-Some-left.is in
    let three = c.cut-3.ensures.parts ∙ ap (λ l. c.cut-3.result.0.now ∷ parts_behind 32 l) c.in-Some-left-2.is in
    let all = one ∙ ap (λ ws. c.cut.result.0.now ∷ ws) (two ∙ ap (λ ws. c.cut-2.result.0.now ∷ ws) (three ∙ ap (λ ws. c.cut-3.result.0.now ∷ ws) c.cut-4.ensures.parts)) in
    let more : is_some c.cut-4.result.1 ≡ true = search rules in
    sym (ap (mistake_of_words c.args.number) all ∙ too_many c.args.number c.cut.result.0.now c.cut-2.result.0.now c.cut-3.result.0.now c.cut-4.result.0.now c.cut-4.result.1 more)
