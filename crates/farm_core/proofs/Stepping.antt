-- An event is refused, is done, or wants memory.
use Rattle.std.proofs.Common.{◌≡◌, ◌≢◌, Some, None, refl, sym, ap, ◌∙◌}
use Rattle.std.specs.Prelude.{IsTrue}
use Rattle.farm_kinds.specs.declared.events.Event.{Event}
use Rattle.farm_kinds.specs.declared.events.Reply.{Reply}
use Rattle.farm_kinds.specs.declared.events.Reply.TheVariants as reply
use Rattle.farm_model.specs.Refusing.{refused_or}
use Rattle.farm_model.specs.State.{State}
use Rattle.farm_model.specs.Refusals.{refusal_of}
use Rattle.farm_model.specs.Changes.{accepted}
use Rattle.farm_model.specs.Farm.{farm_step, takes_memory, Stepped}

-- an event that is not answered want of memory
pub stepped_by : (old : State) (e : Event) (new : State) (r : Reply) → r ≢ reply.NoMemory → farm_step old e ≡ (new, r) → Stepped old e new r
stepped_by old e new r other step = record {
  wanted = λ no. absurd (other no);
  kept = λ no. absurd (other no);
  state = λ _. sym (ap (λ p. p.0) step);
  answer = λ _. sym (ap (λ p. p.1) step);
}

pub refused : (s : State) (e : Event) (r : Reply) → refusal_of s e ≡ Some r → r ≢ reply.NoMemory → Stepped s e s r
refused s e r refusal answers = stepped_by s e s r answers (ap (λ o. refused_or s o (accepted s e)) refusal)

pub done : (s : State) (e : Event) (new : State) (r : Reply) → refusal_of s e ≡ None → accepted s e ≡ (new, r) → r ≢ reply.NoMemory → Stepped s e new r
done s e new r let_in change answers = stepped_by s e new r answers (ap (λ o. refused_or s o (accepted s e)) let_in ∙ change)

pub wanting : (s : State) (e : Event) (new : State) → refusal_of s e ≡ None → IsTrue (takes_memory s e) → new ≡ s → Stepped s e new reply.NoMemory
wanting s e new let_in takes same = record {
  wanted = λ _. record { takes = takes; accepted = let_in };
  kept = λ _. same;
  state = λ other. absurd (other refl);
  answer = λ other. absurd (other refl);
}
