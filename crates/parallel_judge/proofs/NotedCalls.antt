-- The journal goes on with what the caller enters.
use Rattle.std.proofs.Common.{◌≡◌, ◌≢◌, ◌⊎◌, inl, inr, ⊎_elim, ℕ, List, [], ◌∷◌, ◌++◌, Option, Some, None, refl, sym, ap, ◌∙◌, subst}
use Rattle.std.proofs.lemmas.List.{append_assoc, map-append}
use Rattle.farm_kinds.specs.declared.outcomes.Task.{Task}
use Rattle.farm_kinds.specs.declared.events.Event.{Event}
use Rattle.farm_kinds.specs.declared.events.Reply.{Reply}
use Rattle.farm_kinds.specs.declared.events.Reply.TheVariants as reply
use Rattle.farm_model.specs.State.{State, SettingsValue, start}
use Rattle.farm_model.specs.Farm.{farm_step}
use Rattle.farm_model.specs.Replay.{state_after, reply_to}
use Rattle.farm_laws.proofs.Outputs.{state_after-append}
use Rattle.case_run.specs.Cases.{TestCase}
use Rattle.farm_board.specs.Histories.{effective_calls, journal_with_call}
use Rattle.farm_board.specs.Passes.{call_of}
use Rattle.farm_board.specs.declared.entries.Call.{Call}
use Rattle.parallel_judge.specs.declared.noted.NotedFarm.{NotedFarm}
use Rattle.parallel_judge.specs.Journal.{events_in, AreAnswered, AreJudging, AreNamed, IsJudgingEvent, IsKept}
use Rattle.parallel_judge.specs.Noting.{Notes, StillKeeps}
use Rattle.parallel_judge.proofs.Opening.{callers_more}

answered_more : (s : State) (calls : List Call) (call : Call) → AreAnswered s calls → call.reply ≡ reply_to (state_after s (events_in calls)) call.event → AreAnswered s (calls ++ call ∷ [])
answered_more s [] call h is = (is, tt)
answered_more s (c ∷ calls) call h is = (h.0, answered_more (farm_step s c.event).0 calls call h.1 is)

judging_more : (case_at : Task → Option TestCase) (calls : List Call) (call : Call) → AreJudging case_at calls → IsJudgingEvent case_at call.event → AreJudging case_at (calls ++ call ∷ [])
judging_more case_at [] call h is = (is, tt)
judging_more case_at (c ∷ calls) call h is = (h.0, judging_more case_at calls call h.1 is)

named_more : (calls : List Call) (call : Call) → AreNamed calls → call.number ≡ 0 → AreNamed (calls ++ call ∷ [])
named_more [] call h is = (λ other. absurd (other is), tt)
named_more (c ∷ calls) call h is = (h.0, named_more calls call h.1 is)

one_more_kept : (settings : SettingsValue) (case_at : Task → Option TestCase) (hosts : ℕ) (s : State) (calls : List Call) (e : Event) (r : Reply)
    → IsKept settings case_at hosts s calls → IsJudgingEvent case_at e → r ≡ reply_to s e → IsKept settings case_at hosts (farm_step s e).0 (calls ++ call_of 0 e r ∷ [])
one_more_kept settings case_at hosts s calls e r k judges answers =
    let call = call_of 0 e r in
    record {
      history = k.history;
      later = k.later ++ call ∷ [];
      legal = k.legal;
      whole = ap (λ (cs : List Call). cs ++ call ∷ []) k.whole ∙ append_assoc (effective_calls k.history) k.later (call ∷ []);
      callers = callers_more k.later call k.callers refl;
      named = named_more calls call k.named refl;
      answered = answered_more (start settings) calls call k.answered (answers ∙ ap (λ (t : State). reply_to t e) k.stands);
      judging = judging_more case_at calls call k.judging judges;
      stands = ap (λ (t : State). (farm_step t e).0) k.stands ∙ sym (state_after-append (start settings) (events_in calls) (e ∷ []))
          ∙ ap (state_after (start settings)) (sym (map-append (λ (c : Call). c.event) calls (call ∷ [])));
    }

journal_was : (journal : Option (List Call)) (call : Call) (calls : List Call) → journal_with_call journal call ≡ Some calls → (old : List Call) × (journal ≡ Some old) × (old ++ call ∷ [] ≡ calls)
journal_was None call calls e = cc
journal_was (Some old) call calls e = (old, refl, (let same : old ++ call ∷ [] ≡ calls = cc in same))

-- an event that was answered
pub still_keeps : (case_at : Task → Option TestCase) (old new : NotedFarm) (e : Event) (r : Reply) → Notes old new e r → r ≢ reply.NoMemory → IsJudgingEvent case_at e → StillKeeps case_at old new
still_keeps case_at old new e r notes some judges settings hosts kept calls is =
    let was = journal_was old.history (call_of 0 e r) calls (sym (notes.noted some) ∙ is) in
    subst (λ (s : State). IsKept settings case_at hosts s calls) (sym (notes.state some))
    (subst (λ (cs : List Call). IsKept settings case_at hosts (farm_step old.farm e).0 cs) was.2
    (one_more_kept settings case_at hosts old.farm was.0 e r (kept was.0 was.1) judges (notes.answer some)))

-- where memory ran out nothing changed
no_memory_or_not : (r : Reply) → (r ≡ reply.NoMemory) ⊎ (r ≢ reply.NoMemory)
no_memory_or_not reply.NoMemory = inl refl
no_memory_or_not r = inr (λ e. cc)

-- whatever the answer
pub step_keeps : (case_at : Task → Option TestCase) (old new : NotedFarm) (e : Event) (r : Reply) → Notes old new e r → IsJudgingEvent case_at e → StillKeeps case_at old new
step_keeps case_at old new e r notes judges =
    ⊎_elim (λ (none : r ≡ reply.NoMemory). subst (StillKeeps case_at old) (sym (notes.unchanged none)) (λ settings hosts kept. kept))
    (λ (some : r ≢ reply.NoMemory). still_keeps case_at old new e r notes some judges) (no_memory_or_not r)
