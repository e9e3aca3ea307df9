use Rattle.std.proofs.Common.{◌≡◌, ℕ, zero, suc, ◌-◌, ◌<◌, ◌≤◌, refl, ap, ◌∙◌, arith}
use Rattle.rv_machine.specs.declared.ending.Ending.{Ending}
use Rattle.rv_machine.specs.Stepping.{State, Outcome, Next, End, Finish, machine_step, onward, finish}
use Rattle.rv_machine.specs.Laws.{then_on, steps}
use Rattle.rv_machine.proofs.Finishing.{Charges, charges_step, left, no_time, time_finish, finish_step}

ended : (o : Outcome) (e : Ending) (t : State) → o ≡ End e t → onward finish o ≡ record { ending = e; state = t }
ended o e t h = ap (onward finish) h

later : (n : ℕ) (o : Outcome) (e : Ending) (t : State) → ((u : State) → steps n u ≡ End e t → finish u ≡ record { ending = e; state = t }) → then_on (steps n) o ≡ End e t → onward finish o ≡ record { ending = e; state = t }
later n (Next u) e t rest h = rest u h
later n (End f u) e t rest h = ended (End f u) e t h

pub ends_as_finish : (s : State) (n : ℕ) (e : Ending) (t : State) → steps n s ≡ End e t → finish s ≡ record { ending = e; state = t }
ends_as_finish s zero e t h = finish_step s ∙ ended (machine_step s) e t h
ends_as_finish s (suc n) e t h = finish_step s ∙ later n (machine_step s) e t (λ u g. ends_as_finish u n e t g) h

abbrev end_of : Finish → Outcome
end_of f = End f.ending f.state

through : (n : ℕ) (s : State) (o : Outcome) → Charges s o → ((t : State) → s.cost < t.cost → t.limits ≡ s.limits → steps n t ≡ end_of (finish t)) → then_on (steps n) o ≡ end_of (onward finish o)
through n s (Next t) c rest = rest t c.0 c.1
through n s (End e t) c rest = refl

ends_within : (n : ℕ) (s : State) → left s ≤ n → steps n s ≡ end_of (finish s)
ends_within zero s h = rw (time_finish s (omega arith)) (no_time s (omega arith))
ends_within (suc n) s h =
    rw (finish_step s)
    (through n s (machine_step s) (charges_step s) (λ t c l. let same : t.limits.instructions ≡ s.limits.instructions = ap (λ x. x.instructions) l in ends_within n t (omega arith)))

pub ends_in_time : (s : State) → steps (s.limits.instructions - s.cost) s ≡ End (finish s).ending (finish s).state
ends_in_time s = ends_within (left s) s (omega arith)
