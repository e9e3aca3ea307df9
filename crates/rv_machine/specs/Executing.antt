use Rattle.std.specs.Prelude.{◌≡◌, ℕ, ◌+◌, ◌*◌, ◌/◌, ◌%◌, ◌^◌, ◌<◌, ◌⊎◌, true, false, Option, Some, None, Result, Ok, Err}
use Rattle.rv_word.specs.Table.{instruction_of}
use Rattle.rv_memory.specs.Paged as memory
use Rattle.rv_memory.specs.declared.memory.MemFault.{MemFault}
use Rattle.rv_memory.specs.declared.memory.MemFault.TheVariants as faults
use Rattle.rv_machine.specs.declared.ending.Ending.TheVariants.{Trap, Memory}
use Rattle.rv_machine.specs.declared.ending.Trap.TheVariants.{Misaligned}
use Rattle.rv_machine.specs.declared.processor.Flow.{Flow}
use Rattle.rv_machine.specs.declared.processor.Flow.TheVariants.{Next, Stored, Within, Jump, Stopped}
use Rattle.rv_machine.specs.declared.processor.ProgramCounter.{ProgramCounter}
use Rattle.rv_machine.specs.declared.processor.Stop.{Stop}
use Rattle.rv_machine.specs.declared.processor.Stop.TheVariants.{Ended, Call, NoMemory}
use Rattle.rv_word.specs.declared.instr.Instr.{Instr}
use Rattle.rv_word.specs.declared.instr.Op.TheVariants.{Ebreak}
use Rattle.rv_machine.specs.declared.running.Fetch.{Fetch}
use Rattle.rv_machine.specs.declared.running.Fetch.TheVariants.{Ready, Break, Illegal, OutOfMemory}
use Rattle.rv_machine.specs.Decoded.{IsStep, Keeps, IsWritten, instr_of, is_decoded}
use Rattle.rv_machine.specs.Hart.{Hart, Effect, Moves, Ends, Calls, next_pc}
use Rattle.rv_machine.specs.Operations.{fetched, instruction}
use Rattle.rv_machine.specs.Storage.{Storage, hart_of}

-- the address of a word of a page; that behind the last word is the next page's
abbrev pub address_of : ProgramCounter → ℕ
address_of c = (c.page + 4 * c.word) % 2 ^ 32

-- the page is the address of one, and the word is one of its words
pub record IsInPage (c : ProgramCounter) : Type 0 where
  pub page : c.page % 4096 ≡ 0
  pub small : c.page < 2 ^ 32
  pub word : c.word < 1024

-- an instruction of the hart, whose page is touched, has the effect; where it does not go on it changes nothing, and
-- there may also be no memory for it
abbrev pub Does : Hart → Flow → Effect → Storage → Type 0
Does h Next (Moves g) new = (hart_of new (next_pc h) ≡ g) × Keeps h.memory new.memory
Does h Next (Ends e g) new = ⊥
Does h Next (Calls g) new = ⊥
Does h (Stored w) (Moves g) new = (hart_of new (next_pc h) ≡ g) × IsWritten h.memory new.memory w
Does h (Stored w) (Ends e g) new = ⊥
Does h (Stored w) (Calls g) new = ⊥
Does h (Within k) (Moves g) new =
    (hart_of new (h.pc / 4096 * 4096 + 4 * k) ≡ g) × (k < 1024) × Keeps h.memory new.memory
Does h (Within k) (Ends e g) new = ⊥
Does h (Within k) (Calls g) new = ⊥
Does h (Jump to) (Moves g) new = (hart_of new to ≡ g) × (to % 4 ≡ 0) × Keeps h.memory new.memory
Does h (Jump to) (Ends e g) new = ⊥
Does h (Jump to) (Calls g) new = ⊥
Does h (Stopped (Ended e)) (Moves g) new = ⊥
Does h (Stopped (Ended e)) (Ends f g) new = (e ≡ f) × (hart_of new h.pc ≡ g) × (hart_of new h.pc ≡ h)
Does h (Stopped (Ended e)) (Calls g) new = ⊥
Does h (Stopped Call) (Moves g) new = ⊥
Does h (Stopped Call) (Ends e g) new = ⊥
Does h (Stopped Call) (Calls g) new = (hart_of new h.pc ≡ g) × (hart_of new h.pc ≡ h)
Does h (Stopped NoMemory) o new = hart_of new h.pc ≡ h

-- how a refused access stops the processor
abbrev pub stop_of : MemFault → Stop
stop_of faults.Misaligned = Ended (Trap Misaligned)
stop_of (faults.OverLimit n) = Ended Memory
stop_of faults.NoMemory = NoMemory

-- the hart's page is touched as for a fetch, where the limit allows it, and the word there is an instruction that goes
-- on; there may also be no memory
abbrev pub Enters : Result ℕ Stop → Hart → Storage → Type 0
Enters (Ok here) h new = (memory.is_over h.memory (h.pc / 4096) ≡ false) × (hart_of new h.pc ≡ fetched h)
Enters (Err (Ended e)) h new =
    ((e ≡ Memory) × (memory.is_over h.memory (h.pc / 4096) ≡ true) × (hart_of new h.pc ≡ h))
    ⊎ ((memory.is_over h.memory (h.pc / 4096) ≡ false) × (hart_of new h.pc ≡ fetched h)
    × Does (fetched h) (Stopped (Ended e)) (instruction (fetched h)) new)
Enters (Err Call) h new = ⊥
Enters (Err NoMemory) h new =
    (hart_of new h.pc ≡ h) ⊎ ((memory.is_over h.memory (h.pc / 4096) ≡ false) × (hart_of new h.pc ≡ fetched h))

abbrev pub IsBreak : Option Instr → Type 0
IsBreak None = ⊥
IsBreak (Some i) = i.op ≡ Ebreak

-- the word at an address is fetched as a step, or is no instruction
abbrev pub Fetches : Fetch → memory.State → ℕ → Instr → Type 0
Fetches Ready m pc s = (instruction_of (memory.word_at m pc) ≡ Some (instr_of s)) × IsStep s × (is_decoded s.op ≡ true)
Fetches Break m pc s = IsBreak (instruction_of (memory.word_at m pc))
Fetches Illegal m pc s = instruction_of (memory.word_at m pc) ≡ None
Fetches OutOfMemory m pc s = Unit {0}
