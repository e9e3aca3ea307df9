use Rattle.std.specs.Prelude.{◌≡◌, ◌≢◌, ℕ, ◌+◌, ◌*◌, ◌/◌, ◌%◌, ◌<◌, ◌≤◌, ◌⊎◌, Bool, true, false, List, [], replicate, map, length, get_or, Option, None, Some, pos, nat_eq, if◌then◌else◌, Box}
use Rattle.std.specs.Int.{cast_signed, cast_unsigned, w32}
use Rattle.rv_word.specs.declared.instr.Op.{Op}
use Rattle.rv_word.specs.declared.instr.Op.TheVariants.{Ebreak}
use Rattle.rv_word.specs.declared.instr.Instr.{Instr}
use Rattle.rv_word.specs.Table.{instruction_of}
use Rattle.rv_memory.specs.Paged as memory
use Rattle.rv_machine.specs.declared.code.Code.{Code}
use Rattle.rv_machine.specs.declared.processor.Stored.{Stored}

-- ---- steps: instructions as they are kept, with register 32 in the place of x0 where it is written

-- a step writes none of x0 and reads none of register 32, and its immediate has 32 bits
pub record IsStep (s : Instr) : Type 0 where
  pub rd_some : 0 < s.rd
  pub rd : s.rd < 33
  pub rs1 : s.rs1 < 32
  pub rs2 : s.rs2 < 32
  pub imm : cast_signed w32 (cast_unsigned w32 s.imm) ≡ s.imm

-- the instruction that a step is
abbrev pub instr_of : Instr → Instr
instr_of s = record { op = s.op; rd = if nat_eq s.rd 32 then 0 else s.rd; rs1 = s.rs1; rs2 = s.rs2; imm = s.imm }

-- EBREAK stands for a word that is not decoded
abbrev pub is_decoded : Op → Bool
is_decoded Ebreak = false
is_decoded o = true

abbrev pub undecoded : Instr
undecoded = record { op = Ebreak; rd = 32; rs1 = 0; rs2 = 0; imm = pos 0 }

-- the steps of a page of which no word is decoded
unfoldable pub blank : List Instr
blank = replicate 1024 undecoded

-- ---- decoded pages beside a memory

-- the steps of each decoded page
abbrev pub pages : {A : Type 0} → List (Box (List Instr) A) → List (List Instr)
pages boxes = map (λ b. b.value) boxes

abbrev pub step_of : Code → ℕ → ℕ → Instr
step_of c k j = get_or (get_or (pages c.steps.items) k []) j undecoded

-- numbers in ascending order
abbrev pub IsAscending : List ℕ → Type 0
IsAscending numbers = (i j : ℕ) → i < j → j < length numbers → get_or numbers i 0 < get_or numbers j 0

-- the numbers before a place are below a number, and those from there on above it
pub record IsBetween (numbers : List ℕ) (k number : ℕ) : Type 0 where
  pub below : (i : ℕ) → i < k → get_or numbers i 0 < number
  pub above : (i : ℕ) → k ≤ i → i < length numbers → number < get_or numbers i 0

-- a step is the word's instruction, or the word is not decoded
pub record IsFresh (word : ℕ) (s : Instr) : Type 0 where
  pub small : IsStep s
  pub same : is_decoded s.op ≡ true → instruction_of word ≡ Some (instr_of s)

-- the decoded pages stand in the order of their numbers; each is a touched page, at no place behind the last, and each
-- of its steps is fresh
pub record IsCode (m : memory.State) (c : Code) : Type 0 where
  pub count : length c.steps.items ≡ length c.numbers.items
  pub whole : (k : ℕ) → k < length c.numbers.items → length (get_or (pages c.steps.items) k []) ≡ 1024
  pub ascending : IsAscending c.numbers.items
  pub touched : (k : ℕ) → k < length c.numbers.items → memory.is_touched m (get_or c.numbers.items k 0) ≡ true
  pub placed : (k : ℕ) → k < length c.numbers.items → memory.place m.pages (get_or c.numbers.items k 0) ≤ c.last
  pub fresh : (k j : ℕ) → k < length c.numbers.items → j < 1024
      → IsFresh (memory.word_at m (4096 * get_or c.numbers.items k 0 + 4 * j)) (step_of c k j)

-- the word at an address is decoded, in a page at a place among the decoded ones
pub record IsReady (c : Code) (here pc : ℕ) : Type 0 where
  pub some : here < length c.numbers.items
  pub page : get_or c.numbers.items here 0 ≡ pc / 4096
  pub ready : is_decoded (step_of c here (pc / 4 % 1024)).op ≡ true

-- n has the words of m, and its pages at their places
pub record Keeps (m n : memory.State) : Type 0 where
  pub words : (b : ℕ) → memory.word_at n b ≡ memory.word_at m b
  pub pages : (p : ℕ) → memory.is_touched m p ≡ true → memory.is_touched n p ≡ true
  pub places : (p : ℕ) → memory.is_touched m p ≡ true → memory.place n.pages p ≡ memory.place m.pages p

-- n has the words of m, but for one, and has its pages at their places
pub record DiffersAt (m n : memory.State) (word : ℕ) : Type 0 where
  pub words : (b : ℕ) → b % 4 ≡ 0 → b ≢ word → memory.word_at n b ≡ memory.word_at m b
  pub pages : (p : ℕ) → memory.is_touched m p ≡ true → memory.is_touched n p ≡ true
  pub places : (p : ℕ) → memory.is_touched m p ≡ true → memory.place n.pages p ≡ memory.place m.pages p

-- a step is as it was, or it is not decoded any more
abbrev pub IsClearedAt : List (List Instr) → List (List Instr) → ℕ → ℕ → Type 0
IsClearedAt old new i j =
    (get_or (get_or new i []) j undecoded ≡ get_or (get_or old i []) j undecoded)
    ⊎ (get_or (get_or new i []) j undecoded ≡ undecoded)

-- n is m after a store
pub record IsWritten (m n : memory.State) (w : Stored) : Type 0 where
  pub differs : DiffersAt m n (w.at / 4 * 4)
  pub at_place : w.place ≡ memory.place n.pages (w.at / 4096)

pub record IsStale (n : memory.State) (c : Code) (w : Stored) : Type 0 where
  pub before : memory.State
  pub code : IsCode before c
  pub written : IsWritten before n w

-- the decoded pages are those of a memory, or they were before a store
abbrev pub IsKept : Option Stored → memory.State → Code → Type 0
IsKept None n c = IsCode n c
IsKept (Some w) n c = IsStale n c w
