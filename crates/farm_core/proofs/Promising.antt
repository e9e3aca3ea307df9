-- What an answer promises, where the farm stands after some events.
use Rattle.std.proofs.Common.{◌≡◌, ◌≢◌, List, sym, ap, ◌∙◌, subst}
use Rattle.farm_kinds.specs.declared.events.Event.{Event}
use Rattle.farm_kinds.specs.declared.events.Reply.{Reply}
use Rattle.farm_kinds.specs.declared.events.Reply.TheVariants as reply
use Rattle.farm_model.specs.State.{State, SettingsValue}
use Rattle.farm_model.specs.Farm.{farm_step, Stepped}
use Rattle.farm_laws.specs.Laws.{reached, StepKeepsPromise}
use Rattle.farm_laws.proofs.Reporting.{step_keeps_promise}

pub promised : (old new : State) (e : Event) (r : Reply) → Stepped old e new r
    → (settings : SettingsValue) (es : List Event) → old ≡ reached settings es → r ≢ reply.NoMemory → StepKeepsPromise settings es e new r
promised old new e r stepped settings es at other =
    let state : new ≡ (farm_step (reached settings es) e).0 = stepped.state other ∙ ap (λ (s : State). (farm_step s e).0) at in
    let answer : r ≡ (farm_step (reached settings es) e).1 = stepped.answer other ∙ ap (λ (s : State). (farm_step s e).1) at in
    subst (λ (s : State). StepKeepsPromise settings es e s r) (sym state)
    (subst (λ (x : Reply). StepKeepsPromise settings es e (farm_step (reached settings es) e).0 x) (sym answer) (step_keeps_promise settings es e))
