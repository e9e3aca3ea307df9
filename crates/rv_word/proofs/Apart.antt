use Rattle.std.proofs.Common.{◌≡◌, ℕ, ◌≤◌, Bool, true, false, ◌&&◌, inl, inr, nat_eq, List, [], ◌∷◌, length, Option, Some, None, refl, arith, ap, eqb-true, if◌then◌else◌}
use Rattle.std.specs.List.{filter}
use Rattle.std.proofs.lemmas.Bool.{cases_Bool}
use Rattle.rv_word.specs.declared.instr.Instr.{Instr}
use Rattle.rv_word.specs.declared.instr.Op.{Op}
use Rattle.rv_word.specs.declared.instr.Op.TheVariants.{Lui, Auipc, Jal, Jalr, Beq, Bne, Blt, Bge, Bltu, Bgeu, Lb, Lh, Lw, Lbu, Lhu, Sb, Sh, Sw, Addi, Slti, Sltiu, Xori, Ori, Andi, Slli, Srli, Srai, Add, Sub, Sll, Slt, Sltu, Xor, Srl, Sra, Or, And, Mul, Mulh, Mulhsu, Mulhu, Div, Divu, Rem, Remu, Fence, Ecall, Ebreak}
use Rattle.rv_word.specs.Table.{opcode, funct3, funct7, form_r, form_i, form_h, form_s, form_b, form_u, form_j, row, row3, row7, row_word, Row, table, rows_of}

-- ---- what a row asks of its words, as numbers that can be compared

record Key : Type 0 where
  code : ℕ
  f3 : Option ℕ
  f7 : Option ℕ
  word : Option ℕ

abbrev by_code : ℕ → Key
by_code c = record { code = c; f3 = None; f7 = None; word = None }

abbrev by_funct3 : ℕ → ℕ → Key
by_funct3 c f = record { code = c; f3 = Some f; f7 = None; word = None }

abbrev by_funct7 : ℕ → ℕ → ℕ → Key
by_funct7 c f g = record { code = c; f3 = Some f; f7 = Some g; word = None }

abbrev by_word : ℕ → Key
by_word w = record { code = opcode w; f3 = None; f7 = None; word = Some w }

abbrev Asks : Option ℕ → ℕ → Type 0
Asks None x = Unit {0}
Asks (Some n) x = x ≡ n

record Holds (k : Key) (w : ℕ) : Type 0 where
  code : opcode w ≡ k.code
  f3 : Asks k.f3 (funct3 w)
  f7 : Asks k.f7 (funct7 w)
  word : Asks k.word w

abbrev differ : Option ℕ → Option ℕ → Bool
differ (Some a) (Some b) = if nat_eq a b then false else true
differ (Some a) None = false
differ None o = false

-- two keys ask for different numbers somewhere
abbrev apart : Key → Key → Bool
apart k l = if nat_eq k.code l.code then (if differ k.f3 l.f3 then true else if differ k.f7 l.f7 then true else differ k.word l.word) else true

differ_means : (o p : Option ℕ) (x : ℕ) → differ o p ≡ true → Asks o x → Asks p x → ⊥
differ_means (Some a) (Some b) x d h g = let e : a ≡ b = cc in grind arith
differ_means (Some a) None x d h g = cc
differ_means None p x d h g = cc

apart_means : (k l : Key) (w : ℕ) → apart k l ≡ true → Holds k w → Holds l w → ⊥
apart_means k l w d h g =
    let same : k.code ≡ l.code = let a = h.code in let b = g.code in cc in
    let test : nat_eq k.code l.code ≡ true = grind arith in
    let inner : (if differ k.f3 l.f3 then true else if differ k.f7 l.f7 then true else differ k.word l.word) ≡ true = rw test at d in
    elim (cases_Bool (differ k.f3 l.f3)) [
      | inl t ↦ differ_means k.f3 l.f3 (funct3 w) t h.f3 g.f3
      | inr f ↦
          let next : (if differ k.f7 l.f7 then true else differ k.word l.word) ≡ true = rw f at inner in
          elim (cases_Bool (differ k.f7 l.f7)) [
            | inl t ↦ differ_means k.f7 l.f7 (funct7 w) t h.f7 g.f7
            | inr f ↦ let last : differ k.word l.word ≡ true = rw f at next in differ_means k.word l.word w last h.word g.word
          ]
    ]

-- ---- the rows and their keys

abbrev IsKeyed : Row → Key → Type 0
IsKeyed r k = (w : ℕ) → r.is_in w ≡ true → Holds k w

both : (a b : Bool) → (a && b) ≡ true → (a ≡ true) × (b ≡ true)
both true true e = (refl, refl)
both true false e = (refl, e)
both false b e = absurd (cc)

keyed_row : (o : Op) (c : ℕ) (f : Op → ℕ → Instr) → IsKeyed (row o c f) (by_code c)
keyed_row o c f w h = record { code = eqb-true (opcode w) c h; f3 = tt; f7 = tt; word = tt }

keyed_row3 : (o : Op) (c f3 : ℕ) (f : Op → ℕ → Instr) → IsKeyed (row3 o c f3 f) (by_funct3 c f3)
keyed_row3 o c f3 f w h =
    let t = both (nat_eq (opcode w) c) (nat_eq (funct3 w) f3) h in
    record { code = eqb-true (opcode w) c t.0; f3 = eqb-true (funct3 w) f3 t.1; f7 = tt; word = tt }

keyed_row7 : (o : Op) (c f3 f7 : ℕ) (f : Op → ℕ → Instr) → IsKeyed (row7 o c f3 f7 f) (by_funct7 c f3 f7)
keyed_row7 o c f3 f7 f w h =
    let s = both (nat_eq (opcode w) c && nat_eq (funct3 w) f3) (nat_eq (funct7 w) f7) h in
    let t = both (nat_eq (opcode w) c) (nat_eq (funct3 w) f3) s.0 in
    record { code = eqb-true (opcode w) c t.0; f3 = eqb-true (funct3 w) f3 t.1; f7 = eqb-true (funct7 w) f7 s.1; word = tt }

keyed_word : (o : Op) (word : ℕ) → IsKeyed (row_word o word) (by_word word)
keyed_word o word w h = let e : w ≡ word = eqb-true w word h in record { code = ap (λ (x : ℕ). opcode x) e; f3 = tt; f7 = tt; word = e }

abbrev AllKeyed : List Row → List Key → Type 0
AllKeyed [] ks = Unit {0}
AllKeyed (r ∷ rs) [] = ⊥
AllKeyed (r ∷ rs) (k ∷ ks) = IsKeyed r k × AllKeyed rs ks

abbrev apart_from : Key → List Key → Bool
apart_from k [] = true
apart_from k (l ∷ ls) = if apart k l then apart_from k ls else false

abbrev all_apart : List Key → Bool
all_apart [] = true
all_apart (k ∷ ks) = if apart_from k ks then all_apart ks else false

keys : List Key
keys = by_code 0x37 ∷ by_code 0x17 ∷ by_code 0x6F ∷ by_funct3 0x67 0 ∷ by_funct3 0x63 0 ∷ by_funct3 0x63 1 ∷ by_funct3 0x63 4 ∷ by_funct3 0x63 5 ∷ by_funct3 0x63 6 ∷ by_funct3 0x63 7 ∷ by_funct3 0x03 0 ∷ by_funct3 0x03 1 ∷ by_funct3 0x03 2 ∷ by_funct3 0x03 4 ∷ by_funct3 0x03 5 ∷ by_funct3 0x23 0 ∷ by_funct3 0x23 1 ∷ by_funct3 0x23 2 ∷ by_funct3 0x13 0 ∷ by_funct3 0x13 2 ∷ by_funct3 0x13 3 ∷ by_funct3 0x13 4 ∷ by_funct3 0x13 6 ∷ by_funct3 0x13 7 ∷ by_funct7 0x13 1 0x00 ∷ by_funct7 0x13 5 0x00 ∷ by_funct7 0x13 5 0x20 ∷ by_funct7 0x33 0 0x00 ∷ by_funct7 0x33 0 0x20 ∷ by_funct7 0x33 1 0x00 ∷ by_funct7 0x33 2 0x00 ∷ by_funct7 0x33 3 0x00 ∷ by_funct7 0x33 4 0x00 ∷ by_funct7 0x33 5 0x00 ∷ by_funct7 0x33 5 0x20 ∷ by_funct7 0x33 6 0x00 ∷ by_funct7 0x33 7 0x00 ∷ by_funct7 0x33 0 0x01 ∷ by_funct7 0x33 1 0x01 ∷ by_funct7 0x33 2 0x01 ∷ by_funct7 0x33 3 0x01 ∷ by_funct7 0x33 4 0x01 ∷ by_funct7 0x33 5 0x01 ∷ by_funct7 0x33 6 0x01 ∷ by_funct7 0x33 7 0x01 ∷ by_funct3 0x0F 0 ∷ by_word 0x00000073 ∷ by_word 0x00100073 ∷ []

keyed : AllKeyed table keys
unfolding keys
keyed = (keyed_row Lui 0x37 form_u, (keyed_row Auipc 0x17 form_u, (keyed_row Jal 0x6F form_j, (keyed_row3 Jalr 0x67 0 form_i, (keyed_row3 Beq 0x63 0 form_b, (keyed_row3 Bne 0x63 1 form_b, (keyed_row3 Blt 0x63 4 form_b, (keyed_row3 Bge 0x63 5 form_b, (keyed_row3 Bltu 0x63 6 form_b, (keyed_row3 Bgeu 0x63 7 form_b, (keyed_row3 Lb 0x03 0 form_i, (keyed_row3 Lh 0x03 1 form_i, (keyed_row3 Lw 0x03 2 form_i, (keyed_row3 Lbu 0x03 4 form_i, (keyed_row3 Lhu 0x03 5 form_i, (keyed_row3 Sb 0x23 0 form_s, (keyed_row3 Sh 0x23 1 form_s, (keyed_row3 Sw 0x23 2 form_s, (keyed_row3 Addi 0x13 0 form_i, (keyed_row3 Slti 0x13 2 form_i, (keyed_row3 Sltiu 0x13 3 form_i, (keyed_row3 Xori 0x13 4 form_i, (keyed_row3 Ori 0x13 6 form_i, (keyed_row3 Andi 0x13 7 form_i, (keyed_row7 Slli 0x13 1 0x00 form_h, (keyed_row7 Srli 0x13 5 0x00 form_h, (keyed_row7 Srai 0x13 5 0x20 form_h, (keyed_row7 Add 0x33 0 0x00 form_r, (keyed_row7 Sub 0x33 0 0x20 form_r, (keyed_row7 Sll 0x33 1 0x00 form_r, (keyed_row7 Slt 0x33 2 0x00 form_r, (keyed_row7 Sltu 0x33 3 0x00 form_r, (keyed_row7 Xor 0x33 4 0x00 form_r, (keyed_row7 Srl 0x33 5 0x00 form_r, (keyed_row7 Sra 0x33 5 0x20 form_r, (keyed_row7 Or 0x33 6 0x00 form_r, (keyed_row7 And 0x33 7 0x00 form_r, (keyed_row7 Mul 0x33 0 0x01 form_r, (keyed_row7 Mulh 0x33 1 0x01 form_r, (keyed_row7 Mulhsu 0x33 2 0x01 form_r, (keyed_row7 Mulhu 0x33 3 0x01 form_r, (keyed_row7 Div 0x33 4 0x01 form_r, (keyed_row7 Divu 0x33 5 0x01 form_r, (keyed_row7 Rem 0x33 6 0x01 form_r, (keyed_row7 Remu 0x33 7 0x01 form_r, (keyed_row3 Fence 0x0F 0 form_i, (keyed_word Ecall 0x00000073, (keyed_word Ebreak 0x00100073, tt))))))))))))))))))))))))))))))))))))))))))))))))

keys_apart : all_apart keys ≡ true
unfolding keys
keys_apart = refl

if_both : (a b : Bool) → (if a then b else false) ≡ true → (a ≡ true) × (b ≡ true)
if_both true b e = (refl, e)
if_both false b e = absurd (cc)

-- ---- a word is in one row at most

none_else : (rs : List Row) (ks : List Key) (k : Key) (w : ℕ) → AllKeyed rs ks → apart_from k ks ≡ true → Holds k w → filter (λ (r : Row). r.is_in w) rs ≡ []
none_else [] ks k w all d h = refl
none_else (r ∷ rs) [] k w all d h = absurd all
none_else (r ∷ rs) (l ∷ ls) k w all d h =
    let t = if_both (apart k l) (apart_from k ls) d in
    let rest : filter (λ (r : Row). r.is_in w) rs ≡ [] = none_else rs ls k w all.1 t.1 h in
    elim (cases_Bool (r.is_in w)) [
      | inl there ↦ absurd (apart_means k l w t.0 h (all.0 w there))
      | inr not ↦ rw not rest
    ]

one_at_most : (rs : List Row) (ks : List Key) (w : ℕ) → AllKeyed rs ks → all_apart ks ≡ true → length (filter (λ (r : Row). r.is_in w) rs) ≤ 1
one_at_most [] ks w all d = omega arith
one_at_most (r ∷ rs) [] w all d = absurd all
one_at_most (r ∷ rs) (k ∷ ks) w all d =
    let t = if_both (apart_from k ks) (all_apart ks) d in
    elim (cases_Bool (r.is_in w)) [
      | inl there ↦ let rest : filter (λ (r : Row). r.is_in w) rs ≡ [] = none_else rs ks k w all.1 t.0 (all.0 w there) in rw (there, rest) (omega arith)
      | inr not ↦ rw not (one_at_most rs ks w all.1 t.1)
    ]

pub in_one_row : (w : ℕ) → length (rows_of w) ≤ 1
unfolding rows_of
in_one_row w = one_at_most table keys w keyed keys_apart
