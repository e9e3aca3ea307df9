use Rattle.std.proofs.Common.{◌≡◌, true, false, Option, Some, refl, inl, inr}
use Rattle.std.proofs.lemmas.Bool.{cases_Bool}
use Rattle.rv_word.specs.declared.instr.Op.{Op}
use Rattle.rv_word.specs.declared.instr.Op.TheVariants.{Lui, Auipc, Jal, Jalr, Beq, Bne, Blt, Bge, Bltu, Bgeu, Lb, Lh, Lw, Lbu, Lhu, Sb, Sh, Sw, Addi, Slti, Sltiu, Xori, Ori, Andi, Slli, Srli, Srai, Add, Sub, Sll, Slt, Sltu, Xor, Srl, Sra, Or, And, Mul, Mulh, Mulhsu, Mulhu, Div, Divu, Rem, Remu, Fence, Ecall, Ebreak}
use Rattle.rv_word.specs.declared.instr.Instr.{Instr}
use Rattle.rv_machine.specs.declared.ending.Ending.{Ending}
use Rattle.rv_machine.specs.declared.ending.Ending.TheVariants.{Trap}
use Rattle.rv_machine.specs.declared.ending.Trap.TheVariants.{Break}
use Rattle.rv_machine.specs.declared.processor.Flow.{Flow}
use Rattle.rv_machine.specs.declared.processor.Flow.TheVariants.{Next, Stored, Within, Jump, Stopped}
use Rattle.rv_machine.specs.Decoded.{instr_of, is_decoded}
use Rattle.rv_machine.specs.Executing.{Does, IsBreak}
use Rattle.rv_machine.specs.Hart.{Hart, Ends}
use Rattle.rv_machine.specs.Operations.{operation}
use Rattle.rv_machine.specs.Storage.{Storage}

-- EBREAK alone is not decoded
pub ebreak_alone : (o : Op) → is_decoded o ≡ false → o ≡ Ebreak
ebreak_alone Lui e = absurd (cc)
ebreak_alone Auipc e = absurd (cc)
ebreak_alone Jal e = absurd (cc)
ebreak_alone Jalr e = absurd (cc)
ebreak_alone Beq e = absurd (cc)
ebreak_alone Bne e = absurd (cc)
ebreak_alone Blt e = absurd (cc)
ebreak_alone Bge e = absurd (cc)
ebreak_alone Bltu e = absurd (cc)
ebreak_alone Bgeu e = absurd (cc)
ebreak_alone Lb e = absurd (cc)
ebreak_alone Lh e = absurd (cc)
ebreak_alone Lw e = absurd (cc)
ebreak_alone Lbu e = absurd (cc)
ebreak_alone Lhu e = absurd (cc)
ebreak_alone Sb e = absurd (cc)
ebreak_alone Sh e = absurd (cc)
ebreak_alone Sw e = absurd (cc)
ebreak_alone Addi e = absurd (cc)
ebreak_alone Slti e = absurd (cc)
ebreak_alone Sltiu e = absurd (cc)
ebreak_alone Xori e = absurd (cc)
ebreak_alone Ori e = absurd (cc)
ebreak_alone Andi e = absurd (cc)
ebreak_alone Slli e = absurd (cc)
ebreak_alone Srli e = absurd (cc)
ebreak_alone Srai e = absurd (cc)
ebreak_alone Add e = absurd (cc)
ebreak_alone Sub e = absurd (cc)
ebreak_alone Sll e = absurd (cc)
ebreak_alone Slt e = absurd (cc)
ebreak_alone Sltu e = absurd (cc)
ebreak_alone Xor e = absurd (cc)
ebreak_alone Srl e = absurd (cc)
ebreak_alone Sra e = absurd (cc)
ebreak_alone Or e = absurd (cc)
ebreak_alone And e = absurd (cc)
ebreak_alone Mul e = absurd (cc)
ebreak_alone Mulh e = absurd (cc)
ebreak_alone Mulhsu e = absurd (cc)
ebreak_alone Mulhu e = absurd (cc)
ebreak_alone Div e = absurd (cc)
ebreak_alone Divu e = absurd (cc)
ebreak_alone Rem e = absurd (cc)
ebreak_alone Remu e = absurd (cc)
ebreak_alone Fence e = absurd (cc)
ebreak_alone Ecall e = absurd (cc)
ebreak_alone Ebreak e = refl

pub is_break : (o : Option Instr) (i : Instr) → o ≡ Some i → is_decoded i.op ≡ false → IsBreak o
is_break o i e f = rw e (ebreak_alone i.op f)

-- ---- what goes on is decoded

abbrev pub GoesOn : Flow → Type 0
GoesOn Next = Unit {0}
GoesOn (Stored w) = Unit {0}
GoesOn (Within k) = Unit {0}
GoesOn (Jump to) = Unit {0}
GoesOn (Stopped x) = ⊥

end_stops : (h : Hart) (r : Flow) (new : Storage) (e : Ending) → GoesOn r → Does h r (Ends e h) new → ⊥
end_stops h Next new e g d = d
end_stops h (Stored w) new e g d = d
end_stops h (Within k) new e g d = d
end_stops h (Jump to) new e g d = d
end_stops h (Stopped x) new e g d = g

pub going_decoded : (h : Hart) (i : Instr) (r : Flow) (new : Storage) → GoesOn r → Does h r (operation i.op h (instr_of i)) new → is_decoded i.op ≡ true
going_decoded h i r new g d = elim (cases_Bool (is_decoded i.op)) [
  | inl e ↦ e
  | inr e ↦ absurd (end_stops h r new (Trap Break) g (rw (ebreak_alone i.op e) at d))
]
