use Rattle.std.specs.Prelude.{◌≡◌, ℕ, ◌+◌, ◌^◌, ◌<◌, ◌≤◌, true, List, length, Option, Some, None, Result, Ok, Err, if◌then◌else◌}
use Rattle.farm_kinds.specs.declared.Limits.{Limits}
use Rattle.farm_kinds.specs.declared.NoMemory.{NoMemory}
use Rattle.rv_memory.specs.Paged as memory
use Rattle.rv_machine.specs.declared.ending.Ending.{Ending}
use Rattle.rv_machine.specs.declared.ending.Ending.TheVariants.{Memory}
use Rattle.rv_machine.specs.declared.processor.Stop.{Stop}
use Rattle.rv_machine.specs.declared.processor.Stop.TheVariants as stop
use Rattle.rv_machine.specs.Inputs.{Inputs}
use Rattle.rv_machine.specs.Storage.{Storage, hart_of}
use Rattle.rv_machine.specs.Stepping.{State, Outcome, Next, End, Finish, system_call, onward, finish, start, filled, bare, opening, is_too_large}

-- a machine: where it stands, and what it answered once it had run
pub record Run : Type 0 where
  pub state : State
  pub answer : Option (Result Ending NoMemory)

-- a machine that has not run; an image that is too large for the limit has its answer
abbrev pub loaded : List ℕ → Limits → Inputs → Run
loaded image limits inputs =
    if is_too_large image limits then record { state = bare limits inputs; answer = Some (Ok Memory) }
    else record { state = opening image limits inputs; answer = None }

-- a machine that has not run, with nothing in memory, whose program begins at an address
abbrev pub blank : ℕ → Limits → Inputs → Run
blank entry limits inputs = record { state = start entry limits inputs; answer = None }

-- bytes are put at an address; where their pages are not within the limit, that is the answer, and a machine that has
-- its answer stays as it is
abbrev pub placed_where : Option (Result Ending NoMemory) → ℕ → List ℕ → Run → Run
placed_where None at bytes r =
    if memory.fits r.state.hart.memory at (length bytes) then record r { state = filled at bytes r.state }
    else record r { answer = Some (Ok Memory) }
placed_where (Some answer) at bytes r = r

abbrev pub placed : ℕ → List ℕ → Run → Run
placed at bytes r = placed_where r.answer at bytes r

abbrev pub finish_from : Option (Result Ending NoMemory) → State → Finish
finish_from None s = finish s
finish_from (Some (Ok e)) s = record { ending = e; state = s }
finish_from (Some (Err x)) s = finish s

-- how the run of a machine ends, or did end
abbrev pub finish_of : Run → Finish
finish_of r = finish_from r.answer r.state

-- ---- parts of a run

-- the machine has come from s to t, where an instruction is a system call or does not go on; where there was no memory,
-- the run would go on from t as it does from s
abbrev pub Stops : Stop → State → State → Type 0
Stops (stop.Ended e) s t = finish s ≡ record { ending = e; state = t }
Stops stop.Call s t = (finish s ≡ onward finish (system_call t)) × (finish s ≡ finish t)
Stops stop.NoMemory s t = finish s ≡ finish t

-- the cost has not fallen, and the limits are the same
pub record IsLater (s t : State) : Type 0 where
  pub cost : s.cost ≤ t.cost
  pub limits : t.limits ≡ s.limits

-- the run from s comes through t
pub record IsOnWay (s t : State) : Type 0 where
  pub same : finish s ≡ finish t
  pub later : IsLater s t

-- the state has this hart, cost and limit
pub record IsStateOf (s : State) (p : Storage) (pc cost limit : ℕ) : Type 0 where
  pub has_hart : s.hart ≡ hart_of p pc
  pub has_cost : s.cost ≡ cost
  pub has_limit : s.limits.instructions ≡ limit

abbrev pub moved : State → Storage → ℕ → ℕ → State
moved s p pc cost = record s { hart = hart_of p pc; cost = cost }

-- the machine has come from s to t, where it leaves a page, which took time, or stops
abbrev pub Pauses : Option Stop → State → State → Type 0
Pauses None s t = IsOnWay s t × (s.cost < t.cost)
Pauses (Some x) s t = Stops x s t × IsLater s t × (x ≡ stop.Call → t.cost < t.limits.instructions)

-- n bytes at an address may move
pub record Admitted (s : State) (at n : ℕ) : Type 0 where
  pub space : at + n ≤ 2 ^ 32
  pub time : s.cost + 1 + n ≤ s.limits.instructions
  pub room : memory.fits s.hart.memory at n ≡ true

-- a step that may stop, and the state after it, are the outcome
abbrev pub Gives : Result (Unit {0}) Stop → Outcome → State → Type 0
Gives (Ok x) (Next t) new = new ≡ t
Gives (Ok x) (End f t) new = ⊥
Gives (Err (stop.Ended e)) (Next t) new = ⊥
Gives (Err (stop.Ended e)) (End f t) new = (e ≡ f) × (new ≡ t)
Gives (Err stop.Call) o new = ⊥
Gives (Err stop.NoMemory) o new = Unit {0}
