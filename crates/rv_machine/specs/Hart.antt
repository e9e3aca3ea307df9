use Rattle.std.specs.Prelude.{ℕ, ◌+◌, ◌/◌, ◌%◌, ◌^◌, Bool, nat_eq, if◌then◌else◌, List, replicate, slice_index, slice_set}
use Rattle.rv_word.specs.declared.instr.Instr.{Instr}
use Rattle.rv_word.specs.Effect.{bits}
use Rattle.rv_memory.specs.Paged as memory
use Rattle.rv_machine.specs.declared.ending.Ending.{Ending}
use Rattle.rv_machine.specs.declared.ending.Ending.TheVariants.{Trap, Memory}
use Rattle.rv_machine.specs.declared.ending.Trap.TheVariants.{Jump, Misaligned}

-- ---- RISC-V Unprivileged ISA, "RV32I": "Programmers' Model", "Control Transfer Instructions" and "Load and Store
-- Instructions"

-- what instructions read and change: the 32 registers, the program counter, and the bytes with the set of touched pages
pub record Hart : Type 0 where
  pub regs : List ℕ
  pub pc : ℕ
  pub memory : memory.State

-- the registers at the start; x2 is the stack pointer
abbrev pub first_regs : List ℕ
first_regs = slice_set (replicate 32 0) 2 0x7FFFFFF0

-- what an instruction does to the hart: it moves on, ends the run there, or calls the system
pub data Effect : Type 0 where
  Moves : Hart → Effect
  Ends : Ending → Hart → Effect
  Calls : Hart → Effect

abbrev pub reg : Hart → ℕ → ℕ
reg h r = slice_index h.regs r

-- the registers after a write to one; x0 stays 0
abbrev pub written : List ℕ → ℕ → ℕ → List ℕ
written regs r v = if nat_eq r 0 then regs else slice_set regs r v

-- the address of the next instruction
abbrev pub next_pc : Hart → ℕ
next_pc h = (h.pc + 4) % 2 ^ 32

-- the address that an immediate reaches from the program counter
abbrev pub relative : Hart → Instr → ℕ
relative h i = (h.pc + bits i.imm) % 2 ^ 32

-- the address of a load, a store or JALR: rs1 plus the immediate
abbrev pub address : Hart → Instr → ℕ
address h i = (reg h i.rs1 + bits i.imm) % 2 ^ 32

abbrev pub passes : Hart → Effect
passes h = Moves (record h { pc = next_pc h })

abbrev pub gives : Hart → Instr → ℕ → Effect
gives h i v = Moves (record { regs = written h.regs i.rd v; pc = next_pc h; memory = h.memory })

-- instructions stand at multiples of 4
abbrev pub jumps : Hart → Instr → ℕ → Effect
jumps h i to =
    if nat_eq (to % 4) 0 then Moves (record { regs = written h.regs i.rd (next_pc h); pc = to; memory = h.memory })
    else Ends (Trap Jump) h

abbrev pub branches : Hart → Instr → Bool → Effect
branches h i taken =
    if taken then (if nat_eq (relative h i % 4) 0 then Moves (record h { pc = relative h i }) else Ends (Trap Jump) h)
    else passes h

-- an access of n bytes at an address: it is misaligned, it would touch a page more than the limit, or the page is
-- touched
abbrev pub accesses : Hart → ℕ → ℕ → (Hart → Effect) → Effect
accesses h n at f =
    if nat_eq (at % n) 0
    then (if memory.is_over h.memory (at / 4096) then Ends Memory h
    else f (record h { memory = memory.touch h.memory (at / 4096) }))
    else Ends (Trap Misaligned) h
