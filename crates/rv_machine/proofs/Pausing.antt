use Rattle.std.proofs.Common.{◌≡◌, ℕ, ◌+◌, ◌*◌, ◌/◌, ◌%◌, ◌^◌, ◌<◌, ◌≤◌, false, Option, None, Some, ap, sym, ◌∙◌, arith}
use Rattle.rv_machine.specs.declared.ending.Ending.TheVariants.{Time}
use Rattle.rv_machine.specs.declared.processor.Flow.TheVariants as flow
use Rattle.rv_machine.specs.declared.processor.Stop.{Stop}
use Rattle.rv_machine.specs.declared.processor.Stop.TheVariants as stop
use Rattle.rv_machine.specs.Executing.{Does}
use Rattle.rv_machine.specs.Hart.{Hart}
use Rattle.rv_machine.specs.Operations.{instruction, fetched}
use Rattle.rv_machine.specs.Running.{IsOnWay, IsLater, Stops, Pauses, moved}
use Rattle.rv_machine.specs.Stepping.{State, finish}
use Rattle.rv_machine.specs.declared.processor.Stored.{Stored}
use Rattle.rv_memory.specs.Paged as memory
use Rattle.rv_machine.specs.Storage.{Storage, hart_of}
use Rattle.rv_machine.proofs.Finishing.{next_finish, stored_finish, jump_finish, within_finish, stopped_finish, time_finish, fetched_finish}

later : (s : State) (p new : Storage) (pc to spent more : ℕ) → IsLater s (moved s p pc spent) → spent ≤ more → IsLater s (moved s new to more)
later s p new pc to spent more w h = record { cost = let c : s.cost ≤ spent = w.cost in omega arith; limits = w.limits }

pub time_pauses : (s : State) (p : Storage) (pc spent limit : ℕ) → s.limits.instructions ≡ limit → limit ≤ spent → IsOnWay s (moved s p pc spent) → Pauses (Some (stop.Ended Time)) s (moved s p pc spent)
time_pauses s p pc spent limit e h w = (w.same ∙ time_finish (moved s p pc spent) (rw e h), w.later, λ x. absurd (cc))

pub stopped_pauses : (s : State) (p new : Storage) (pc spent limit : ℕ) (x : Stop) → s.limits.instructions ≡ limit → spent < limit → IsOnWay s (moved s p pc spent) →
    Does (hart_of p pc) (flow.Stopped x) (instruction (hart_of p pc)) new → Pauses (Some x) s (moved s new pc spent)
stopped_pauses s p new pc spent limit x e h w d =
    (stopped_finish s (moved s p pc spent) new x w.same (rw e h) d, later s p new pc pc spent spent w.later (omega arith), λ y. rw e h)

pub next_way : (s : State) (p new : Storage) (pc spent limit : ℕ) → s.limits.instructions ≡ limit → spent < limit → IsOnWay s (moved s p pc spent) →
    Does (hart_of p pc) flow.Next (instruction (hart_of p pc)) new → IsOnWay s (moved s new ((pc + 4) % 2 ^ 32) (spent + 1))
next_way s p new pc spent limit e h w d =
    record { same = w.same ∙ next_finish (moved s p pc spent) new (rw e h) d; later = later s p new pc ((pc + 4) % 2 ^ 32) spent (spent + 1) w.later (omega arith) }

pub stored_way : (s : State) (p new : Storage) (pc spent limit : ℕ) (w : Stored) → s.limits.instructions ≡ limit → spent < limit → IsOnWay s (moved s p pc spent) →
    Does (hart_of p pc) (flow.Stored w) (instruction (hart_of p pc)) new → IsOnWay s (moved s new ((pc + 4) % 2 ^ 32) (spent + 1))
stored_way s p new pc spent limit x e h w d =
    record { same = w.same ∙ stored_finish (moved s p pc spent) x new (rw e h) d; later = later s p new pc ((pc + 4) % 2 ^ 32) spent (spent + 1) w.later (omega arith) }

pub jump_way : (s : State) (p new : Storage) (pc to spent limit : ℕ) → s.limits.instructions ≡ limit → spent < limit → IsOnWay s (moved s p pc spent) →
    Does (hart_of p pc) (flow.Jump to) (instruction (hart_of p pc)) new → IsOnWay s (moved s new to (spent + 1))
jump_way s p new pc to spent limit e h w d =
    record { same = w.same ∙ jump_finish (moved s p pc spent) to new (rw e h) d; later = later s p new pc to spent (spent + 1) w.later (omega arith) }

pub within_way : (s : State) (p new : Storage) (pc k spent limit : ℕ) → s.limits.instructions ≡ limit → spent < limit → IsOnWay s (moved s p pc spent) →
    Does (hart_of p pc) (flow.Within k) (instruction (hart_of p pc)) new → IsOnWay s (moved s new (pc / 4096 * 4096 + 4 * k) (spent + 1))
within_way s p new pc k spent limit e h w d =
    record { same = w.same ∙ within_finish (moved s p pc spent) k new (rw e h) d; later = later s p new pc (pc / 4096 * 4096 + 4 * k) spent (spent + 1) w.later (omega arith) }

-- where the run from s goes on as the run from t, it stops as the run from t does
stops_from : (s t u : State) (x : Stop) → finish s ≡ finish t → Stops x t u → Stops x s u
stops_from s t u (stop.Ended e) same w = same ∙ w
stops_from s t u stop.Call same w = (same ∙ w.0, same ∙ w.1)
stops_from s t u stop.NoMemory same w = same ∙ w

-- ---- pages

-- the run goes on from s by the page that t entered
pub resumed : (s t u : State) (g : Hart) (o : Option Stop) → IsOnWay s t → t.cost < t.limits.instructions → (memory.is_over t.hart.memory (t.hart.pc / 4096) ≡ false) × (g ≡ fetched t.hart) → Pauses o (record t { hart = g }) u → Pauses o s u
resumed s t u g None w h e p = (
  record { same = w.same ∙ fetched_finish t h e.0 ∙ ap (λ k. finish (record t { hart = k })) (sym e.1) ∙ p.0.same; later = record { cost = let a : s.cost ≤ t.cost = w.later.cost in let b : t.cost ≤ u.cost = p.0.later.cost in omega arith; limits = p.0.later.limits ∙ w.later.limits } },
  let a : s.cost ≤ t.cost = w.later.cost in let b : t.cost < u.cost = p.1 in omega arith,
)
resumed s t u g (Some x) w h e p = (
  stops_from s (record t { hart = g }) u x (w.same ∙ fetched_finish t h e.0 ∙ ap (λ k. finish (record t { hart = k })) (sym e.1)) p.0,
  record { cost = let a : s.cost ≤ t.cost = w.later.cost in let b : t.cost ≤ u.cost = p.1.cost in omega arith; limits = p.1.limits ∙ w.later.limits },
  p.2,
)
