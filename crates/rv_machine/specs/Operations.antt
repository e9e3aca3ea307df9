use Rattle.std.specs.Prelude.{ℕ, ◌*◌, ◌/◌, not, Option, Some, None, if◌then◌else◌, nat_eq, nat_lt, nat_le, int_lt}
use Rattle.std.specs.Int.{cast_signed, w8, w16}
use Rattle.rv_word.specs.declared.instr.Op.{Op}
use Rattle.rv_word.specs.declared.instr.Op.TheVariants.{Lui, Auipc, Jal, Jalr, Beq, Bne, Blt, Bge, Bltu, Bgeu, Lb, Lh, Lw, Lbu, Lhu, Sb, Sh, Sw, Addi, Slti, Sltiu, Xori, Ori, Andi, Slli, Srli, Srai, Add, Sub, Sll, Slt, Sltu, Xor, Srl, Sra, Or, And, Mul, Mulh, Mulhsu, Mulhu, Div, Divu, Rem, Remu, Fence, Ecall, Ebreak}
use Rattle.rv_word.specs.declared.instr.Instr.{Instr}
use Rattle.rv_word.specs.Table.{instruction_of}
use Rattle.rv_word.specs.Effect.{effect, signed, bits}
use Rattle.rv_memory.specs.Paged as memory
use Rattle.rv_machine.specs.declared.ending.Ending.TheVariants.{Trap, Memory}
use Rattle.rv_machine.specs.declared.ending.Trap.TheVariants.{Break, Illegal}
use Rattle.rv_machine.specs.Hart.{Hart, Effect, Moves, Ends, Calls, reg, relative, address, passes, gives, jumps, branches, accesses, next_pc}

-- rd gets the result of an operation on two registers
abbrev pub computes : Op → Hart → Instr → Effect
computes op h i = gives h i (effect op (reg h i.rs1) (reg h i.rs2))

-- rd gets the result of an operation on a register and the immediate
abbrev pub computes_imm : Op → Hart → Instr → Effect
computes_imm op h i = gives h i (effect op (reg h i.rs1) (bits i.imm))

-- rd gets what is in memory, of which the access is n bytes
abbrev pub loads : ℕ → (memory.State → ℕ → ℕ) → Hart → Instr → Effect
loads n value h i = accesses h n (address h i) (λ touched. gives touched i (value h.memory (address h i)))

-- the low n bytes of rs2 go to memory
abbrev pub stores : ℕ → (memory.State → ℕ → ℕ → memory.State) → Hart → Instr → Effect
stores n store h i =
    accesses h n (address h i) (λ touched. Moves (record {
      regs = h.regs;
      pc = next_pc h;
      memory = store h.memory (address h i) (reg h i.rs2);
    }))

-- a byte and a half-word with their sign
abbrev pub signed_byte : memory.State → ℕ → ℕ
signed_byte m at = bits (cast_signed w8 (memory.byte_at m at))

abbrev pub signed_half : memory.State → ℕ → ℕ
signed_half m at = bits (cast_signed w16 (memory.half_at m at))

-- RISC-V Unprivileged ISA, chapters RV32I and M
abbrev pub operation : Op → Hart → Instr → Effect
operation Lui h i = gives h i (bits i.imm)
operation Auipc h i = gives h i (relative h i)
operation Jal h i = jumps h i (relative h i)
operation Jalr h i = jumps h i (address h i / 2 * 2)
operation Beq h i = branches h i (nat_eq (reg h i.rs1) (reg h i.rs2))
operation Bne h i = branches h i (not (nat_eq (reg h i.rs1) (reg h i.rs2)))
operation Blt h i = branches h i (int_lt (signed (reg h i.rs1)) (signed (reg h i.rs2)))
operation Bge h i = branches h i (not (int_lt (signed (reg h i.rs1)) (signed (reg h i.rs2))))
operation Bltu h i = branches h i (nat_lt (reg h i.rs1) (reg h i.rs2))
operation Bgeu h i = branches h i (nat_le (reg h i.rs2) (reg h i.rs1))
operation Lb h i = loads 1 signed_byte h i
operation Lh h i = loads 2 signed_half h i
operation Lw h i = loads 4 memory.word_at h i
operation Lbu h i = loads 1 memory.byte_at h i
operation Lhu h i = loads 2 memory.half_at h i
operation Sb h i = stores 1 memory.store8 h i
operation Sh h i = stores 2 memory.store16 h i
operation Sw h i = stores 4 memory.store32 h i
operation Addi h i = computes_imm Addi h i
operation Slti h i = computes_imm Slti h i
operation Sltiu h i = computes_imm Sltiu h i
operation Xori h i = computes_imm Xori h i
operation Ori h i = computes_imm Ori h i
operation Andi h i = computes_imm Andi h i
operation Slli h i = computes_imm Slli h i
operation Srli h i = computes_imm Srli h i
operation Srai h i = computes_imm Srai h i
operation Add h i = computes Add h i
operation Sub h i = computes Sub h i
operation Sll h i = computes Sll h i
operation Slt h i = computes Slt h i
operation Sltu h i = computes Sltu h i
operation Xor h i = computes Xor h i
operation Srl h i = computes Srl h i
operation Sra h i = computes Sra h i
operation Or h i = computes Or h i
operation And h i = computes And h i
operation Mul h i = computes Mul h i
operation Mulh h i = computes Mulh h i
operation Mulhsu h i = computes Mulhsu h i
operation Mulhu h i = computes Mulhu h i
operation Div h i = computes Div h i
operation Divu h i = computes Divu h i
operation Rem h i = computes Rem h i
operation Remu h i = computes Remu h i
operation Fence h i = passes h
operation Ecall h i = Calls h
operation Ebreak h i = Ends (Trap Break) h

-- the page of the instruction is touched
abbrev pub fetched : Hart → Hart
fetched h = record h { memory = memory.touch h.memory (h.pc / 4096) }

abbrev pub performed : Hart → Option Instr → Effect
performed h None = Ends (Trap Illegal) h
performed h (Some i) = operation i.op h i

-- the instruction at the program counter is fetched, decoded and carried out
abbrev pub instruction : Hart → Effect
instruction h =
    if memory.is_over h.memory (h.pc / 4096) then Ends Memory h
    else performed (fetched h) (instruction_of (memory.word_at h.memory h.pc))
