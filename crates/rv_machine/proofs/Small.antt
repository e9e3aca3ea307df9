use Rattle.std.proofs.Common.{◌≡◌, ◌<◌, ℕ, Bool, true, false, List, [], ◌∷◌, Option, Some, if◌then◌else◌, arith, subst}
use Rattle.rv_word.specs.declared.instr.Op.{Op}
use Rattle.rv_word.specs.declared.instr.Op.TheVariants.{Lui, Auipc, Jal, Jalr, Beq, Bne, Blt, Bge, Bltu, Bgeu, Lb, Lh, Lw, Lbu, Lhu, Sb, Sh, Sw, Addi, Slti, Sltiu, Xori, Ori, Andi, Slli, Srli, Srai, Add, Sub, Sll, Slt, Sltu, Xor, Srl, Sra, Or, And, Mul, Mulh, Mulhsu, Mulhu, Div, Divu, Rem, Remu, Fence, Ecall, Ebreak}
use Rattle.rv_word.specs.declared.instr.Instr.{Instr}
use Rattle.rv_word.specs.Table.{Row, table, read, instruction_of, form_r, form_i, form_h, form_s, form_b, form_u, form_j, bare}

-- the registers of an instruction are among the 32
pub record IsSmall (i : Instr) : Type 0 where
  pub rd : i.rd < 32
  pub rs1 : i.rs1 < 32
  pub rs2 : i.rs2 < 32

small_r : (o : Op) (w : ℕ) → IsSmall (form_r o w)
small_r o w = record { rd = omega arith; rs1 = omega arith; rs2 = omega arith }

small_i : (o : Op) (w : ℕ) → IsSmall (form_i o w)
small_i o w = record { rd = omega arith; rs1 = omega arith; rs2 = omega arith }

small_h : (o : Op) (w : ℕ) → IsSmall (form_h o w)
small_h o w = record { rd = omega arith; rs1 = omega arith; rs2 = omega arith }

small_s : (o : Op) (w : ℕ) → IsSmall (form_s o w)
small_s o w = record { rd = omega arith; rs1 = omega arith; rs2 = omega arith }

small_b : (o : Op) (w : ℕ) → IsSmall (form_b o w)
small_b o w = record { rd = omega arith; rs1 = omega arith; rs2 = omega arith }

small_u : (o : Op) (w : ℕ) → IsSmall (form_u o w)
small_u o w = record { rd = omega arith; rs1 = omega arith; rs2 = omega arith }

small_j : (o : Op) (w : ℕ) → IsSmall (form_j o w)
small_j o w = record { rd = omega arith; rs1 = omega arith; rs2 = omega arith }

small_bare : (o : Op) (w : ℕ) → IsSmall (bare o w)
small_bare o w = record { rd = omega arith; rs1 = omega arith; rs2 = omega arith }

abbrev AllSmall : List Row → Type 0
AllSmall [] = Unit {0}
AllSmall (r ∷ rs) = ((w : ℕ) → IsSmall (r.form r.op w)) × AllSmall rs

table_small : AllSmall table
table_small = (small_u Lui, (small_u Auipc, (small_j Jal, (small_i Jalr, (small_b Beq, (small_b Bne, (small_b Blt, (small_b Bge, (small_b Bltu, (small_b Bgeu, (small_i Lb, (small_i Lh, (small_i Lw, (small_i Lbu, (small_i Lhu, (small_s Sb, (small_s Sh, (small_s Sw, (small_i Addi, (small_i Slti, (small_i Sltiu, (small_i Xori, (small_i Ori, (small_i Andi, (small_h Slli, (small_h Srli, (small_h Srai, (small_r Add, (small_r Sub, (small_r Sll, (small_r Slt, (small_r Sltu, (small_r Xor, (small_r Srl, (small_r Sra, (small_r Or, (small_r And, (small_r Mul, (small_r Mulh, (small_r Mulhsu, (small_r Mulhu, (small_r Div, (small_r Divu, (small_r Rem, (small_r Remu, (small_i Fence, (small_bare Ecall, (small_bare Ebreak, tt))))))))))))))))))))))))))))))))))))))))))))))))

choose_small : (b : Bool) (i j : Instr) (o : Option Instr) → IsSmall i → (o ≡ Some j → IsSmall j) → (if b then Some i else o) ≡ Some j → IsSmall j
choose_small true i j o h g e = let same : i ≡ j = cc in subst IsSmall same h
choose_small false i j o h g e = g e

small_read : (rs : List Row) (w : ℕ) (i : Instr) → AllSmall rs → read rs w ≡ Some i → IsSmall i
small_read [] w i h e = absurd (cc)
small_read (r ∷ rs) w i h e = choose_small (r.is_in w) (r.form r.op w) i (read rs w) (h.0 w) (small_read rs w i h.1) e

-- an instruction names registers among the 32
pub small_instruction : (w : ℕ) (i : Instr) → instruction_of w ≡ Some i → IsSmall i
unfolding instruction_of
small_instruction w i e = small_read table w i table_small e
