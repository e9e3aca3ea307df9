-- Runs that go on.
use Rattle.std.proofs.Common.{◌≡◌, List, [], ◌∷◌, ◌++◌, Option, refl, sym, ap, ◌∙◌, subst, filter_map}
use Rattle.std.specs.Prelude.{All}
use Rattle.std.proofs.lemmas.List.Elements.{All-append, filter_map-append}
use Rattle.farm_kinds.specs.declared.kinds.Kind.{Kind}
use Rattle.farm_kinds.specs.declared.outcomes.Task.{Task}
use Rattle.farm_kinds.specs.declared.events.Event.{Event}
use Rattle.farm_model.specs.State.{State, SettingsValue, start}
use Rattle.farm_model.specs.Farm.{farm_step}
use Rattle.farm_model.specs.Replay.{state_after, reply_to, answered, counted_by, counted_in, AgreesWith}
use Rattle.farm_laws.specs.Laws.{reached}
use Rattle.farm_laws.proofs.Outputs.{state_after-append}
use Rattle.case_run.specs.Cases.{TestCase}
use Rattle.parallel_judge.specs.Working.{truth_of, IsHonestRun}

answered-append : (s : State) (es later : List Event) → answered s (es ++ later) ≡ answered s es ++ answered (state_after s es) later
answered-append s [] later = refl
answered-append s (e ∷ es) later = ap (λ rest. (e, reply_to s e) ∷ rest) (answered-append (farm_step s e).0 es later)

pub counted_in-append : (s : State) (es later : List Event) → counted_in s (es ++ later) ≡ counted_in s es ++ counted_in (state_after s es) later
counted_in-append s es later =
    ap (filter_map counted_by) (answered-append s es later) ∙ filter_map-append counted_by (answered s es) (answered (state_after s es) later)

-- more events, whose results that count are the values of their cases
pub goes_on : (settings : SettingsValue) (case_at : Task → Option TestCase) (s : State) (later : List Event) → IsHonestRun settings case_at s
    → All (AgreesWith settings.rule (truth_of case_at)) (counted_in s later) → IsHonestRun settings case_at (state_after s later)
goes_on settings case_at s later run agrees =
    let Agrees : Task × Kind → Type 0 = AgreesWith settings.rule (truth_of case_at) in
    let here : All Agrees (counted_in (reached settings run.events) later) = subst (λ (t : State). All Agrees (counted_in t later)) run.stands agrees in
    record {
      events = run.events ++ later;
      stands = ap (λ (t : State). state_after t later) run.stands ∙ sym (state_after-append (start settings) run.events later);
      honest = subst (All Agrees) (sym (counted_in-append (start settings) run.events later))
          (All-append Agrees (counted_in (start settings) run.events) (counted_in (reached settings run.events) later) run.honest here);
    }
