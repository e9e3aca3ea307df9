use Rattle.std.proofs.Common.{sym, subst, ◌∙◌}
use Rattle.http_door.specs.WindowValue.{WindowValue}
use Rattle.http_door.specs.Answers.{HoldsAnswer}
use Rattle.http_door.proofs.Windows.{Fills-trans}
use Rattle.http_door.proofs.AnswerFindings.{sized_err}
use Rattle.http_door.proofs.AnswerHolding.{held_sized, held_body}
use Rattle.http_door.proofs.answers.finding.take_answer.Goals as goal

pub returns-in-Err-length_said-clause-err : goal.returns-in-Err-length_said-clause-err
returns-in-Err-length_said-clause-err g c = sized_err _ _ c.in-Ok.seen _ c.in-Ok.ensures.ok c.in-Err-length_said.ensures

pub returns-in-Err-length_said-clause-held : goal.returns-in-Err-length_said-clause-held
returns-in-Err-length_said-clause-held g c =
    λ q.
    let same = c.in-Ok.ensures.held q in
    let held = subst (λ (w : WindowValue). HoldsAnswer w.ahead) (sym same.1) q in
    absurd (held_sized c.find_head.new.window.ahead c.in-Ok.seen c.in-Err-length_said.ending c.in-Ok.ensures.ok c.in-Err-length_said.ensures held)

pub returns-in-Ok-length_said-clause-fills : goal.returns-in-Ok-length_said-clause-fills
returns-in-Ok-length_said-clause-fills g c = Fills-trans _ _ _ _ _ _ c.in-Ok.ensures.fills c.take_body.ensures.fills

pub returns-in-Ok-length_said-clause-held : goal.returns-in-Ok-length_said-clause-held
returns-in-Ok-length_said-clause-held g c =
    λ q.
    let same = c.in-Ok.ensures.held q in
    let held = subst (λ (w : WindowValue). HoldsAnswer w.ahead) (sym same.1) q in
    let body = held_body c.find_head.new.window.ahead c.in-Ok.seen c.in-Ok-length_said.len c.in-Ok.ensures.ok c.in-Ok-length_said.ensures held in
    let all = c.take_body.ensures.held body in
    (all.0 ∙ same.0, all.1)
