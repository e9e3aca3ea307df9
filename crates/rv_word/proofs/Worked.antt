use Rattle.std.proofs.Common.{◌≡◌, Some, None, pos, refl}
use Rattle.std.specs.Prelude.{negsuc}
use Rattle.rv_word.specs.declared.instr.Op.TheVariants.{Jal, Addi, Sw, Srai, Mul, Mulh, Mulhsu, Mulhu, Div, Divu, Rem, Remu, Sra, Sll, Sltiu}
use Rattle.rv_word.specs.Table.{instruction_of}
use Rattle.rv_word.specs.Effect.{effect}

-- ---- words whose meaning is known, computed from the table

mul_of_zeros : instruction_of 0x02000033 ≡ Some (record { op = Mul; rd = 0; rs1 = 0; rs2 = 0; imm = pos 0 })
unfolding instruction_of
mul_of_zeros = refl

jump_back : instruction_of 0xFFDFF06F ≡ Some (record { op = Jal; rd = 0; rs1 = 0; rs2 = 0; imm = negsuc 3 })
unfolding instruction_of
jump_back = refl

zero_is_none : instruction_of 0 ≡ None
unfolding instruction_of
zero_is_none = refl

-- addi x17, x0, 93 and sw x14, -4(x13) and srai x5, x6, 31
exit_number : instruction_of 0x05D00893 ≡ Some (record { op = Addi; rd = 17; rs1 = 0; rs2 = 0; imm = pos 93 })
unfolding instruction_of
exit_number = refl

store_below : instruction_of 0xFEE6AE23 ≡ Some (record { op = Sw; rd = 0; rs1 = 13; rs2 = 14; imm = negsuc 3 })
unfolding instruction_of
store_below = refl

shift_by_31 : instruction_of 0x41F35293 ≡ Some (record { op = Srai; rd = 5; rs1 = 6; rs2 = 0; imm = pos 31 })
unfolding instruction_of
shift_by_31 = refl

-- the same word with another funct7 is none
no_such_shift : instruction_of 0x43F35293 ≡ None
unfolding instruction_of
no_such_shift = refl

-- ---- the corners of the operations

div_by_zero : effect Div 7 0 ≡ 0xFFFFFFFF
div_by_zero = refl

rem_by_zero : effect Rem 7 0 ≡ 7
rem_by_zero = refl

div_overflow : effect Div 0x80000000 0xFFFFFFFF ≡ 0x80000000
div_overflow = refl

rem_overflow : effect Rem 0x80000000 0xFFFFFFFF ≡ 0
rem_overflow = refl

divu_by_zero : effect Divu 7 0 ≡ 0xFFFFFFFF
divu_by_zero = refl

remu_by_zero : effect Remu 7 0 ≡ 7
remu_by_zero = refl

-- -7 divided by 2 is -3, and -1 is left
div_toward_zero : effect Div 0xFFFFFFF9 2 ≡ 0xFFFFFFFD
div_toward_zero = refl

rem_of_negative : effect Rem 0xFFFFFFF9 2 ≡ 0xFFFFFFFF
rem_of_negative = refl

-- -2^31 times itself is 2^62; -1 times 2^32 - 1
mulh_of_least : effect Mulh 0x80000000 0x80000000 ≡ 0x40000000
mulh_of_least = refl

mulhsu_of_minus_one : effect Mulhsu 0xFFFFFFFF 0xFFFFFFFF ≡ 0xFFFFFFFF
mulhsu_of_minus_one = refl

mulhu_of_greatest : effect Mulhu 0xFFFFFFFF 0xFFFFFFFF ≡ 0xFFFFFFFE
mulhu_of_greatest = refl

-- a shift by 33 is one by 1
sra_by_33 : effect Sra 0x80000000 33 ≡ 0xC0000000
sra_by_33 = refl

sll_by_33 : effect Sll 0x80000001 33 ≡ 2
sll_by_33 = refl

-- the immediate of SLTIU is compared as a number without sign
sltiu_of_minus_one : effect Sltiu 5 0xFFFFFFFF ≡ 1
sltiu_of_minus_one = refl
