use Rattle.std.specs.Prelude.{◌≡◌, ℕ, zero, suc, ◌-◌, ◌≤◌, List, []}
use Rattle.farm_kinds.specs.declared.Limits.{Limits}
use Rattle.rv_memory.specs.Paged.{page_count}
use Rattle.rv_machine.specs.declared.ending.Ending.{Ending}
use Rattle.rv_machine.specs.Inputs.{Inputs}
use Rattle.rv_machine.specs.Running.{Run, loaded, blank, placed}
use Rattle.rv_machine.specs.Stepping.{State, Outcome, Next, End, machine_step, finish}

abbrev pub then_on : (State → Outcome) → Outcome → Outcome
then_on f (Next t) = f t
then_on f (End e t) = End e t

-- the outcome of the step after n others, or of the first of them that ends
abbrev pub steps : ℕ → State → Outcome
steps zero s = machine_step s
steps (suc n) s = then_on (steps n) (machine_step s)

-- wherever the repeated step ends, that is the finish
abbrev pub EndsAsFinish : Type 0
EndsAsFinish =
    (s : State) (n : ℕ) (e : Ending) (t : State) → steps n s ≡ End e t → finish s ≡ record { ending = e; state = t }

-- the repeated step does end: when it was made once more than there are instructions left
abbrev pub EndsInTime : Type 0
EndsInTime = (s : State) → steps (s.limits.instructions - s.cost) s ≡ End (finish s).ending (finish s).state

-- a machine with an image is one with nothing in memory, in which the image was put at 0x10000
abbrev pub LoadsByPlacing : Type 0
LoadsByPlacing =
    (image : List ℕ) (limits : Limits) (inputs : Inputs)
    → loaded image limits inputs ≡ placed 0x10000 image (blank 0x10000 limits inputs)

-- no bytes touch no page
abbrev pub PlacesNothing : Type 0
PlacesNothing = (r : Run) (at : ℕ) → page_count r.state.hart.memory ≤ r.state.hart.memory.limit → placed at [] r ≡ r
