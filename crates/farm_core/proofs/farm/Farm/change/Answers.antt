use Rattle.std.proofs.Common.{◌≡◌, List, ℕ, [], ◌∷◌, ◌++◌, sym, ap, ◌∙◌, arith}
use Rattle.std.proofs.lemmas.Grind.{common_steps}
use Rattle.farm_model.specs.Chain.{audit_text}
use Rattle.farm_model.specs.Texts.{logged_text}
use Rattle.farm_model.specs.State.{State}
use Rattle.farm_model.specs.Changes.{accepted}
use Rattle.farm_core.proofs.Aside.{with_texts, entered}
use Rattle.farm_core.proofs.farm.Farm.change.Goals as goal

pub returns-clause-done : goal.returns-clause-done
returns-clause-done c =
    let e = c.args.event.now in
    let entry = c.in_ok-entry.entry in
    let held = c.self.inside.audit.texts in
    let texts : c.add_reserved.new.self.texts ≡ held ++ logged_text e ∷ []
    = ap (λ l. l.texts) c.add_reserved.ensures
    ∙ ap (λ (t : List (List ℕ)). t ++ audit_text entry.who c.as_slice.result.now ∷ []) c.make_entry.ensures.texts
    ∙ ap (λ (words : List ℕ). held ++ audit_text entry.who words ∷ []) c.as_slice.ensures
    ∙ ap (λ (text : List ℕ). held ++ text ∷ []) c.in_ok-entry.ensures.text in
    ap (λ (s : State). accepted s e) (sym c.self.view_is)
    ∙ entered c.self.inside.contest c.change.new.self held e c.in_ok-reply.reply c.requires.jurys c.in_ok-reply.ensures.done
    ∙ ap (λ (t : List (List ℕ)). (with_texts c.change.new.self t, c.in_ok-reply.reply)) (sym texts)

pub invariant_of-self-2 : goal.invariant_of-self-2
invariant_of-self-2 c = grind (arith, common_steps)
