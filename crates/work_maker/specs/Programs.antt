-- The programs of made contests, as RV32I instructions (RISC-V Unprivileged ISA, "RV32I").
use Rattle.std.specs.Prelude.{ℕ, ◌*◌, ◌^◌, List, [], ◌∷◌, ◌++◌, map, ℤ, pos, negsuc, ◌==◌, if◌then◌else◌}
use Rattle.std.specs.Int.{w32, to_le_bytes}
use Rattle.std.specs.List.{flat_map}
use Rattle.rv_word.specs.declared.instr.Op.TheVariants as op
use Rattle.rv_word.specs.declared.instr.Instr.{Instr}
use Rattle.rv_word.specs.Spelling.{word_of}
use Rattle.work_maker.specs.declared.programs.Program.{Program}
use Rattle.work_maker.specs.declared.programs.Program.TheVariants as program

abbrev pub lui : ℕ → ℕ → Instr
lui rd upper = record { op = op.Lui; rd = rd; rs1 = 0; rs2 = 0; imm = pos (upper * 2 ^ 12) }

abbrev pub addi : ℕ → ℕ → ℕ → Instr
addi rd rs1 imm = record { op = op.Addi; rd = rd; rs1 = rs1; rs2 = 0; imm = pos imm }

abbrev pub add : ℕ → ℕ → ℕ → Instr
add rd rs1 rs2 = record { op = op.Add; rd = rd; rs1 = rs1; rs2 = rs2; imm = pos 0 }

-- a byte from the address in the register, and one to it
abbrev pub lbu : ℕ → ℕ → Instr
lbu rd at = record { op = op.Lbu; rd = rd; rs1 = at; rs2 = 0; imm = pos 0 }

abbrev pub sb : ℕ → ℕ → Instr
sb rs2 at = record { op = op.Sb; rd = 0; rs1 = at; rs2 = rs2; imm = pos 0 }

abbrev pub bltu : ℕ → ℕ → ℤ → Instr
bltu rs1 rs2 by = record { op = op.Bltu; rd = 0; rs1 = rs1; rs2 = rs2; imm = by }

-- a jump that keeps no return address
abbrev pub jump : ℤ → Instr
jump by = record { op = op.Jal; rd = 0; rs1 = 0; rs2 = 0; imm = by }

abbrev pub ecall : Instr
ecall = record { op = op.Ecall; rd = 0; rs1 = 0; rs2 = 0; imm = pos 0 }

-- the call 93 ends the run with this code
abbrev pub exit : ℕ → List Instr
exit code = addi 10 0 code ∷ addi 17 0 93 ∷ ecall ∷ []

-- the call 63 reads up to 64 bytes of the input to the address 0x20000
abbrev pub read : List Instr
read = lui 11 0x20 ∷ addi 10 0 0 ∷ addi 12 0 64 ∷ addi 17 0 63 ∷ ecall ∷ []

-- the call 64 writes as many bytes as were read
abbrev pub write : List Instr
write = addi 12 10 0 ∷ addi 10 0 1 ∷ addi 17 0 64 ∷ ecall ∷ []

-- what each program does, one instruction after the other; the broken one has none
abbrev pub instructions_of : Program → List Instr
instructions_of program.Echo = read ++ write ++ exit 0
instructions_of program.Silent = exit 0
instructions_of program.Loop = jump (pos 0) ∷ []
instructions_of program.Fail = exit 1
instructions_of program.Half =
    read ++ lbu 13 11 ∷ addi 14 0 53 ∷ bltu 13 14 (pos 8) ∷ jump (pos 0) ∷ write ++ exit 0
instructions_of program.Greedy = lui 11 0x100 ∷ lui 15 1 ∷ sb 0 11 ∷ add 11 11 15 ∷ jump (negsuc 7) ∷ []
instructions_of program.Broken = []

-- the words of the instructions
abbrev pub words_of : Program → List ℕ
words_of made = map word_of (instructions_of made)

abbrev pub image_with : List ℕ → List ℕ
image_with words = flat_map (to_le_bytes w32) words

-- The image of a program: its words, the least byte of each first. Three bytes are no image.
abbrev pub image_of : Program → List ℕ
image_of program.Broken = 0 ∷ 0 ∷ 0 ∷ []
image_of made = image_with (words_of made)

-- the programs have the numbers from 0 to 6
abbrev pub program_numbered : ℕ → Program
program_numbered n =
    if n == 0 then program.Echo
    else if n == 1 then program.Silent
    else if n == 2 then program.Loop
    else if n == 3 then program.Fail
    else if n == 4 then program.Half
    else if n == 5 then program.Greedy
    else program.Broken
