use Rattle.std.proofs.Common.{◌≡◌, ℕ, zero, suc, ◌+◌, ◌-◌, ◌*◌, ◌%◌, ◌^◌, ◌<◌, ◌≤◌, Bool, true, false, not, nat_eq, nat_lt, min, List, length, Option, Some, None, Err, refl, sym, ap, ◌∙◌, arith, if◌then◌else◌, inl, inr, ◌/◌}
use Rattle.rv_memory.specs.Paged as memory
use Rattle.rv_machine.specs.declared.ending.Ending.{Ending}
use Rattle.rv_machine.specs.declared.ending.Ending.TheVariants.{Time, Memory}
use Rattle.rv_machine.specs.declared.processor.Flow.TheVariants as flow
use Rattle.rv_machine.specs.declared.processor.Stop.{Stop}
use Rattle.rv_machine.specs.declared.processor.Stop.TheVariants as stop
use Rattle.rv_machine.specs.Hart.{Hart, Effect, Moves, Ends, Calls, reg, next_pc}
use Rattle.rv_machine.specs.Operations.{instruction, fetched}
use Rattle.rv_machine.specs.Inputs.{left_at}
use Rattle.rv_machine.specs.Storage.{Storage, hart_of}
use Rattle.rv_machine.specs.Executing.{Does, Enters}
use Rattle.rv_machine.specs.Decoded.{Keeps, IsWritten}
use Rattle.rv_machine.specs.declared.processor.Stored.{Stored}
use Rattle.rv_machine.specs.Running.{Stops, Gives}
use Rattle.rv_machine.proofs.Doing.{instruction_fetched}
use Rattle.rv_machine.specs.Stepping.{State, Outcome, Next, End, Finish, transfers, reads, writes, system_call, applied, machine_step, onward, finish_within, finish}

-- ---- a step that goes on costs at least 1 and keeps the limits

abbrev pub Charges : State → Outcome → Type 0
Charges s (Next t) = (s.cost < t.cost) × (t.limits ≡ s.limits)
Charges s (End e t) = Unit {0}

charges_choice : (s : State) (b : Bool) (x y : Outcome) → Charges s x → Charges s y → Charges s (if b then x else y)
charges_choice s true x y p q = p
charges_choice s false x y p q = q

charges_transfers : (s : State) (at n : ℕ) (o : Outcome) → Charges s o → Charges s (transfers s at n o)
charges_transfers s at n o p =
    charges_choice s (nat_lt (2 ^ 32) (at + n)) _ _ tt
    (charges_choice s (nat_lt s.limits.instructions (s.cost + 1 + n)) _ _ tt (charges_choice s (not (memory.fits s.hart.memory at n)) _ _ tt p))

charges_reads : (s : State) (d at room : ℕ) (left : Option (List ℕ)) → Charges s (reads s d at room left)
charges_reads s d at room None = (omega arith, refl)
charges_reads s d at room (Some left) = charges_transfers s at (min room (length left)) _ (omega arith, refl)

charges_writes : (s : State) (d at n : ℕ) → Charges s (writes s d at n)
charges_writes s d at n =
    charges_choice s (nat_eq d 1) _ _ (charges_transfers s at n _ (charges_choice s (nat_lt s.limits.output (length s.output + n)) _ _ tt (omega arith, refl)))
    (charges_choice s (nat_eq d 2) _ _ (charges_transfers s at n _ (omega arith, refl)) (omega arith, refl))

pub charges_call : (s : State) → Charges s (system_call s)
charges_call s =
    charges_choice s (nat_eq (reg s.hart 17) 93) _ _ tt
    (charges_choice s (nat_eq (reg s.hart 17) 63) _ _ (charges_reads s (reg s.hart 10) (reg s.hart 11) (reg s.hart 12) (left_at s.inputs (reg s.hart 10)))
    (charges_choice s (nat_eq (reg s.hart 17) 64) _ _ (charges_writes s (reg s.hart 10) (reg s.hart 11) (reg s.hart 12)) tt))

charges_applied : (s : State) (e : Effect) → Charges s (applied s e)
charges_applied s (Moves h) = (omega arith, refl)
charges_applied s (Ends e h) = tt
charges_applied s (Calls h) = charges_call (record s { hart = h })

pub charges_step : (s : State) → Charges s (machine_step s)
charges_step s = charges_choice s (nat_lt s.limits.instructions (s.cost + 1)) _ _ tt (charges_applied s (instruction s.hart))

-- ---- the finish does not depend on how many steps are allowed for, if they are enough

abbrev pub left : State → ℕ
left s = s.limits.instructions - s.cost

abbrev time_out : State → Finish
time_out s = record { ending = Time; state = s }

pub no_time : (s : State) → s.limits.instructions ≤ s.cost → machine_step s ≡ End Time s
no_time s h = grind arith

-- with no step left there is no time
at_end : (n : ℕ) (s : State) → s.limits.instructions ≤ s.cost → finish_within n s ≡ time_out s
at_end zero s h = refl
at_end (suc n) s h = ap (onward (finish_within n)) (no_time s h)

-- both ways on from an outcome are equal where they are equal at each state that it may give
onward_same : (s : State) (f g : State → Finish) (o : Outcome) → Charges s o → ((t : State) → s.cost < t.cost → t.limits ≡ s.limits → f t ≡ g t) → onward f o ≡ onward g o
onward_same s f g (Next t) c same = same t c.0 c.1
onward_same s f g (End e t) c same = refl

-- any two numbers of steps that are enough
enough : (n m : ℕ) (s : State) → left s ≤ n → left s ≤ m → finish_within n s ≡ finish_within m s
enough zero m s h g = sym (at_end m s (omega arith))
enough (suc n) zero s h g = at_end (suc n) s (omega arith)
enough (suc n) (suc m) s h g =
    onward_same s (finish_within n) (finish_within m) (machine_step s) (charges_step s)
    (λ t c l. let same : t.limits.instructions ≡ s.limits.instructions = ap (λ x. x.instructions) l in enough n m t (omega arith) (omega arith))

finish_step-within : (n : ℕ) (s : State) → n ≡ left s → finish_within n s ≡ onward finish (machine_step s)
unfolding finish
finish_step-within zero s e = sym (ap (onward finish) (no_time s (omega arith)))
finish_step-within (suc n) s e =
    onward_same s (finish_within n) finish (machine_step s) (charges_step s)
    (λ t c l. let same : t.limits.instructions ≡ s.limits.instructions = ap (λ x. x.instructions) l in enough n (left t) t (omega arith) (omega arith))

-- the finish is the first ending: that of the step, or the finish from the next state
pub finish_step : (s : State) → finish s ≡ onward finish (machine_step s)
unfolding finish
finish_step s = finish_step-within (left s) s refl

-- ---- the instructions of a run

step_does : (s : State) → s.cost < s.limits.instructions → machine_step s ≡ applied s (instruction s.hart)
step_does s h = grind arith

next_applied : (s : State) (new : Storage) (e : Effect) → Does s.hart flow.Next e new → applied s e ≡ Next (record s { hart = hart_of new (next_pc s.hart); cost = s.cost + 1 })
next_applied s new (Moves h) d = ap (λ x. Next (record s { hart = x; cost = s.cost + 1 })) (sym d.0)
next_applied s new (Ends f h) d = absurd d
next_applied s new (Calls h) d = absurd d

pub next_finish : (s : State) (new : Storage) → s.cost < s.limits.instructions → Does s.hart flow.Next (instruction s.hart) new → finish s ≡ finish (record s { hart = hart_of new (next_pc s.hart); cost = s.cost + 1 })
next_finish s new h d = finish_step s ∙ ap (onward finish) (step_does s h ∙ next_applied s new (instruction s.hart) d)

pub next_keeps : (h : Hart) (new : Storage) (e : Effect) → Does h flow.Next e new → Keeps h.memory new.memory
next_keeps h new (Moves g) d = d.1
next_keeps h new (Ends f g) d = absurd d
next_keeps h new (Calls g) d = absurd d

stored_applied : (s : State) (w : Stored) (new : Storage) (e : Effect) → Does s.hart (flow.Stored w) e new → applied s e ≡ Next (record s { hart = hart_of new (next_pc s.hart); cost = s.cost + 1 })
stored_applied s w new (Moves h) d = ap (λ x. Next (record s { hart = x; cost = s.cost + 1 })) (sym d.0)
stored_applied s w new (Ends f h) d = absurd d
stored_applied s w new (Calls h) d = absurd d

pub stored_finish : (s : State) (w : Stored) (new : Storage) → s.cost < s.limits.instructions → Does s.hart (flow.Stored w) (instruction s.hart) new → finish s ≡ finish (record s { hart = hart_of new (next_pc s.hart); cost = s.cost + 1 })
stored_finish s w new h d = finish_step s ∙ ap (onward finish) (step_does s h ∙ stored_applied s w new (instruction s.hart) d)

pub stored_writes : (h : Hart) (w : Stored) (new : Storage) (e : Effect) → Does h (flow.Stored w) e new → IsWritten h.memory new.memory w
stored_writes h w new (Moves g) d = d.1
stored_writes h w new (Ends f g) d = absurd d
stored_writes h w new (Calls g) d = absurd d

jump_applied : (s : State) (to : ℕ) (new : Storage) (e : Effect) → Does s.hart (flow.Jump to) e new → applied s e ≡ Next (record s { hart = hart_of new to; cost = s.cost + 1 })
jump_applied s to new (Moves h) d = ap (λ x. Next (record s { hart = x; cost = s.cost + 1 })) (sym d.0)
jump_applied s to new (Ends f h) d = absurd d
jump_applied s to new (Calls h) d = absurd d

pub jump_finish : (s : State) (to : ℕ) (new : Storage) → s.cost < s.limits.instructions → Does s.hart (flow.Jump to) (instruction s.hart) new → finish s ≡ finish (record s { hart = hart_of new to; cost = s.cost + 1 })
jump_finish s to new h d = finish_step s ∙ ap (onward finish) (step_does s h ∙ jump_applied s to new (instruction s.hart) d)

pub jump_goes : (h : Hart) (to : ℕ) (new : Storage) (e : Effect) → Does h (flow.Jump to) e new → (to % 4 ≡ 0) × Keeps h.memory new.memory
jump_goes h to new (Moves g) d = (d.1, d.2)
jump_goes h to new (Ends f g) d = absurd d
jump_goes h to new (Calls g) d = absurd d

within_applied : (s : State) (k : ℕ) (new : Storage) (e : Effect) → Does s.hart (flow.Within k) e new → applied s e ≡ Next (record s { hart = hart_of new (s.hart.pc / 4096 * 4096 + 4 * k); cost = s.cost + 1 })
within_applied s k new (Moves h) d = ap (λ x. Next (record s { hart = x; cost = s.cost + 1 })) (sym d.0)
within_applied s k new (Ends f h) d = absurd d
within_applied s k new (Calls h) d = absurd d

pub within_finish : (s : State) (k : ℕ) (new : Storage) → s.cost < s.limits.instructions → Does s.hart (flow.Within k) (instruction s.hart) new → finish s ≡ finish (record s { hart = hart_of new (s.hart.pc / 4096 * 4096 + 4 * k); cost = s.cost + 1 })
within_finish s k new h d = finish_step s ∙ ap (onward finish) (step_does s h ∙ within_applied s k new (instruction s.hart) d)

pub within_goes : (h : Hart) (k : ℕ) (new : Storage) (e : Effect) → Does h (flow.Within k) e new → (k < 1024) × Keeps h.memory new.memory
within_goes h k new (Moves g) d = (d.1, d.2)
within_goes h k new (Ends f g) d = absurd d
within_goes h k new (Calls g) d = absurd d

-- where an instruction does not go on it changes nothing
pub stopped_keeps : (h : Hart) (new : Storage) (x : Stop) (e : Effect) → Does h (flow.Stopped x) e new → hart_of new h.pc ≡ h
stopped_keeps h new (stop.Ended e) (Moves g) d = absurd d
stopped_keeps h new (stop.Ended e) (Ends f g) d = d.2
stopped_keeps h new (stop.Ended e) (Calls g) d = absurd d
stopped_keeps h new stop.Call (Moves g) d = absurd d
stopped_keeps h new stop.Call (Ends f g) d = absurd d
stopped_keeps h new stop.Call (Calls g) d = d.1
stopped_keeps h new stop.NoMemory e d = d

ended_applied : (s : State) (e : Ending) (new : Storage) (f : Effect) → Does s.hart (flow.Stopped (stop.Ended e)) f new → applied s f ≡ End e (record s { hart = hart_of new s.hart.pc })
ended_applied s e new (Moves h) d = absurd d
ended_applied s e new (Ends f h) d = ap (λ x. End x (record s { hart = h })) (sym d.0) ∙ ap (λ x. End e (record s { hart = x })) (sym d.1)
ended_applied s e new (Calls h) d = absurd d

ended_finish : (s : State) (e : Ending) (new : Storage) → s.cost < s.limits.instructions → Does s.hart (flow.Stopped (stop.Ended e)) (instruction s.hart) new → finish s ≡ record { ending = e; state = record s { hart = hart_of new s.hart.pc } }
ended_finish s e new h d = finish_step s ∙ ap (onward finish) (step_does s h ∙ ended_applied s e new (instruction s.hart) d)

call_applied : (s : State) (new : Storage) (f : Effect) → Does s.hart (flow.Stopped stop.Call) f new → applied s f ≡ system_call (record s { hart = hart_of new s.hart.pc })
call_applied s new (Moves h) d = absurd d
call_applied s new (Ends f h) d = absurd d
call_applied s new (Calls h) d = ap (λ x. system_call (record s { hart = x })) (sym d.0)

call_finish : (s : State) (new : Storage) → s.cost < s.limits.instructions → Does s.hart (flow.Stopped stop.Call) (instruction s.hart) new → finish s ≡ onward finish (system_call (record s { hart = hart_of new s.hart.pc }))
call_finish s new h d = finish_step s ∙ ap (onward finish) (step_does s h ∙ call_applied s new (instruction s.hart) d)

pub time_finish : (s : State) → s.limits.instructions ≤ s.cost → finish s ≡ time_out s
time_finish s h = finish_step s ∙ ap (onward finish) (no_time s h)

-- ---- the page of an instruction

applied_hart : (s : State) (g : Hart) (e : Effect) → applied (record s { hart = g }) e ≡ applied s e
applied_hart s g (Moves h) = refl
applied_hart s g (Ends e h) = refl
applied_hart s g (Calls h) = refl

-- the run goes on from the touched page as it does from before
pub fetched_finish : (s : State) → s.cost < s.limits.instructions → memory.is_over s.hart.memory (s.hart.pc / 4096) ≡ false → finish s ≡ finish (record s { hart = fetched s.hart })
fetched_finish s h within =
    let t : State = record s { hart = fetched s.hart } in
    finish_step s
    ∙ ap (onward finish) (step_does s h ∙ sym (step_does t h ∙ applied_hart s (fetched s.hart) (instruction (fetched s.hart)) ∙ ap (applied s) (instruction_fetched s.hart within)))
    ∙ sym (finish_step t)

over_instruction : (h : Hart) → memory.is_over h.memory (h.pc / 4096) ≡ true → instruction h ≡ Ends Memory h
over_instruction h over = rw over refl

pub over_finish : (s : State) → s.cost < s.limits.instructions → memory.is_over s.hart.memory (s.hart.pc / 4096) ≡ true → finish s ≡ record { ending = Memory; state = s }
over_finish s h over = finish_step s ∙ ap (onward finish) (step_does s h ∙ ap (applied s) (over_instruction s.hart over))

-- ---- on the way

pub stopped_finish : (s t : State) (new : Storage) (x : Stop) → finish s ≡ finish t → t.cost < t.limits.instructions → Does t.hart (flow.Stopped x) (instruction t.hart) new → Stops x s (record t { hart = hart_of new t.hart.pc })
stopped_finish s t new (stop.Ended e) same h d = same ∙ ended_finish t e new h d
stopped_finish s t new stop.Call same h d = (same ∙ call_finish t new h d, same ∙ ap (λ g. finish (record t { hart = g })) (sym (stopped_keeps t.hart new stop.Call (instruction t.hart) d)))
stopped_finish s t new stop.NoMemory same h d = same ∙ ap (λ g. finish (record t { hart = g })) (sym d)

-- what comes of a page that is not entered
pub entered_finish : (s t : State) (new : Storage) (x : Stop) → finish s ≡ finish t → t.cost < t.limits.instructions → Enters (Err x) t.hart new → Stops x s (record t { hart = hart_of new t.hart.pc })
entered_finish s t new (stop.Ended e) same h d = elim d [
  | inl over ↦ same ∙ over_finish t h over.1 ∙ ap (λ f. record { ending = f; state = t }) (sym over.0) ∙ ap (λ k. record { ending = e; state = record t { hart = k } }) (sym over.2)
  | inr enters ↦ same ∙ fetched_finish t h enters.0 ∙ ended_finish (record t { hart = fetched t.hart }) e new h enters.2
]
entered_finish s t new stop.Call same h d = absurd d
entered_finish s t new stop.NoMemory same h d = elim d [
  | inl stays ↦ same ∙ ap (λ k. finish (record t { hart = k })) (sym stays)
  | inr enters ↦ same ∙ fetched_finish t h enters.0 ∙ ap (λ k. finish (record t { hart = k })) (sym enters.1)
]

end_given : (e : Ending) (o : Outcome) (t : State) → Gives (Err (stop.Ended e)) o t → onward finish o ≡ record { ending = e; state = t }
end_given e (Next u) t g = absurd g
end_given e (End f u) t g = ap (λ x. record { ending = x; state = u }) (sym g.0) ∙ ap (λ x. record { ending = e; state = x }) (sym g.1)

-- a system call ends the run
pub call_ended : (s t u : State) (e : Ending) → finish s ≡ onward finish (system_call t) → Gives (Err (stop.Ended e)) (system_call t) u → finish s ≡ record { ending = e; state = u }
call_ended s t u e same g = same ∙ end_given e (system_call t) u g
