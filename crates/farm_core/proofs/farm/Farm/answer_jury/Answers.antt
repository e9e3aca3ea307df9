use Rattle.std.proofs.Common.{◌≡◌, Some, None, sym, ap, ◌∙◌, subst}
use Rattle.farm_model.specs.State.{State}
use Rattle.farm_model.specs.Refusals.{refusal_of}
use Rattle.farm_model.specs.Changes.{accepted}
use Rattle.farm_model.specs.Farm.{Stepped}
use Rattle.farm_core.proofs.Aside.{with_texts, refusal_aside}
use Rattle.farm_core.proofs.Stepping.{refused, done}
use Rattle.farm_core.proofs.farm.Farm.answer_jury.Goals as goal

pub returns-in-Some : goal.returns-in-Some
returns-in-Some c =
    let s = c.args.self.now in
    let e = c.args.event.now in
    let t = c.self.inside.audit.texts in
    let same : with_texts c.jury_refusal.new.self t ≡ s = ap (λ (x : State). with_texts x t) c.jury_refusal.ensures.unchanged ∙ c.self.view_is in
    let refusal : refusal_of s e ≡ Some c.in-Some.refusal
    = ap (λ (x : State). refusal_of x e) (sym c.self.view_is) ∙ refusal_aside c.self.inside.contest t e ∙ sym c.jury_refusal.ensures.refusal ∙ c.in-Some.is in
    subst (λ (x : State). Stepped s e x c.in-Some.refusal) (sym same) (refused s e c.in-Some.refusal refusal c.in-Some.ensures.answers)

pub returns-in-Ok : goal.returns-in-Ok
returns-in-Ok c =
    let s = c.args.self.now in
    let e = c.args.event.now in
    let t = c.self.inside.audit.texts in
    let same : with_texts c.jury_refusal.new.self t ≡ s = ap (λ (x : State). with_texts x t) c.jury_refusal.ensures.unchanged ∙ c.self.view_is in
    let none : refusal_of s e ≡ None
    = ap (λ (x : State). refusal_of x e) (sym c.self.view_is) ∙ refusal_aside c.self.inside.contest t e ∙ sym c.jury_refusal.ensures.refusal ∙ c.in_default.is in
    done s e c.change.new.self c.in-Ok.reply none (ap (λ (x : State). accepted x e) (sym same) ∙ c.in-Ok.ensures.done) c.in-Ok.ensures.answers
