use Rattle.std.specs.Prelude.{ℕ, zero, suc, ◌+◌, ◌-◌, ◌^◌, Bool, not, min, nat_eq, nat_lt, if◌then◌else◌, List, [], ◌++◌, length, take, drop, Option, Some, None}
use Rattle.farm_kinds.specs.declared.Limits.{Limits}
use Rattle.rv_memory.specs.Paged as memory
use Rattle.rv_machine.specs.declared.ending.Ending.{Ending}
use Rattle.rv_machine.specs.declared.ending.Ending.TheVariants.{Exit, Trap, Time, Memory, Output}
use Rattle.rv_machine.specs.declared.ending.Trap.TheVariants.{Call, Range}
use Rattle.rv_machine.specs.Hart.{Hart, Effect, Moves, Ends, Calls, reg, written, next_pc, first_regs}
use Rattle.rv_machine.specs.Operations.{instruction}
use Rattle.rv_machine.specs.Inputs.{Inputs, left_at, with_left}

-- a machine between two instructions
pub record State : Type 0 where
  pub limits : Limits
  pub hart : Hart
  pub inputs : Inputs
  pub output : List ℕ
  pub cost : ℕ

-- what a step gives: the state after it, or an ending with the state whose output, cost and pages are those of the run
pub data Outcome : Type 0 where
  Next : State → Outcome
  End : Ending → State → Outcome

-- ---- system calls

-- the call answers the number v in x10, and costs 1 and n more, one for each byte
abbrev pub answers : State → ℕ → ℕ → Outcome
answers s v n =
    Next (record s {
      hart = record s.hart { regs = written s.hart.regs 10 v; pc = next_pc s.hart };
      cost = s.cost + 1 + n;
    })

abbrev pub unknown_descriptor : State → Outcome
unknown_descriptor s = answers s (2 ^ 32 - 1) 0

-- n bytes at an address move: they lie below 2^32, there is time for them, and their pages are within the limit
abbrev pub transfers : State → ℕ → ℕ → Outcome → Outcome
transfers s at n done =
    if nat_lt (2 ^ 32) (at + n) then End (Trap Range) s
    else if nat_lt s.limits.instructions (s.cost + 1 + n) then End Time s
    else if not (memory.fits s.hart.memory at n) then End Memory s
    else done

-- the pages of n bytes at an address are touched
abbrev pub touched : State → ℕ → ℕ → State
touched s at n = record s { hart = record s.hart { memory = memory.touch_range s.hart.memory at n } }

-- read: what is left at the descriptor, as far as there is room for it, goes to memory
abbrev pub reads : State → ℕ → ℕ → ℕ → Option (List ℕ) → Outcome
reads s d at room None = unknown_descriptor s
reads s d at room (Some left) =
    let n = min room (length left) in
    transfers s at n (answers (record s {
      hart = record s.hart {
        memory = memory.store_bytes (memory.touch_range s.hart.memory at n) at (take n left);
      };
      inputs = with_left s.inputs d (drop n left);
    }) n n)

-- write: bytes of memory go to the output, and what is written to descriptor 2 is let go
abbrev pub writes : State → ℕ → ℕ → ℕ → Outcome
writes s d at n =
    if nat_eq d 1 then transfers s at n (
    if nat_lt s.limits.output (length s.output + n) then End Output s
    else answers (record (touched s at n) {
      output = s.output ++ memory.bytes_at (touched s at n).hart.memory at n;
    }) n n)
    else if nat_eq d 2 then transfers s at n (answers (touched s at n) n n)
    else unknown_descriptor s

-- x17 has the number of the call; x10, x11 and x12 have the descriptor, the address and the length
abbrev pub exit_call : State → Outcome
exit_call s = End (Exit (reg s.hart 10)) (record s { cost = s.cost + 1 })

abbrev pub read_call : State → Outcome
read_call s = reads s (reg s.hart 10) (reg s.hart 11) (reg s.hart 12) (left_at s.inputs (reg s.hart 10))

abbrev pub write_call : State → Outcome
write_call s = writes s (reg s.hart 10) (reg s.hart 11) (reg s.hart 12)

abbrev pub system_call : State → Outcome
system_call s =
    if nat_eq (reg s.hart 17) 93 then exit_call s
    else if nat_eq (reg s.hart 17) 63 then read_call s
    else if nat_eq (reg s.hart 17) 64 then write_call s
    else End (Trap Call) s

-- ---- the step

-- an instruction that is no system call costs 1
abbrev pub applied : State → Effect → Outcome
applied s (Moves h) = Next (record s { hart = h; cost = s.cost + 1 })
applied s (Ends e h) = End e (record s { hart = h })
applied s (Calls h) = system_call (record s { hart = h })

abbrev pub machine_step : State → Outcome
machine_step s = if nat_lt s.limits.instructions (s.cost + 1) then End Time s else applied s (instruction s.hart)

-- ---- the run

-- how a run ends, and the state there
pub record Finish : Type 0 where
  pub ending : Ending
  pub state : State

abbrev pub onward : (State → Finish) → Outcome → Finish
onward f (Next t) = f t
onward f (End e t) = record { ending = e; state = t }

-- the first ending when the step is repeated, n times at most; each step costs at least 1, so with a cost of n left no more
-- can be made
abbrev pub finish_within : ℕ → State → Finish
finish_within zero s = record { ending = Time; state = s }
finish_within (suc n) s = onward (finish_within n) (machine_step s)

unfoldable pub finish : State → Finish
finish s = finish_within (s.limits.instructions - s.cost) s

-- the start of a program at an address, with nothing in memory
abbrev pub start : ℕ → Limits → Inputs → State
start entry limits inputs =
    record {
      limits = limits;
      hart = record { regs = first_regs; pc = entry; memory = record { limit = limits.pages; pages = [] } };
      inputs = inputs;
      output = [];
      cost = 0;
    }

-- bytes stand at an address, and their pages are touched
abbrev pub filled : ℕ → List ℕ → State → State
filled at bytes s =
    let t = touched s at (length bytes) in
    record t { hart = record t.hart { memory = memory.store_bytes t.hart.memory at bytes } }

-- the start of a raw image, with nothing in memory
abbrev pub bare : Limits → Inputs → State
bare limits inputs = start 0x10000 limits inputs

-- the image stands at 0x10000
abbrev pub opening : List ℕ → Limits → Inputs → State
opening image limits inputs = filled 0x10000 image (bare limits inputs)

abbrev pub is_too_large : List ℕ → Limits → Bool
is_too_large image limits = not (memory.fits (record { limit = limits.pages; pages = [] }) 0x10000 (length image))

-- an image of more pages than the limit ends at once, with no page touched
abbrev pub run_of : List ℕ → Limits → Inputs → Finish
run_of image limits inputs =
    if is_too_large image limits then record { ending = Memory; state = bare limits inputs }
    else finish (opening image limits inputs)
