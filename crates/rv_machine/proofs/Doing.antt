use Rattle.std.proofs.Common.{◌≡◌, ℕ, ◌*◌, ◌/◌, true, false, Option, None, Some, refl, ap, ◌∙◌, sym}
use Rattle.rv_word.specs.declared.instr.Instr.{Instr}
use Rattle.rv_word.specs.Table.{instruction_of}
use Rattle.rv_memory.specs.Paged as memory
use Rattle.rv_memory.proofs.Bytes.{word_at_touch}
use Rattle.rv_memory.proofs.Touching.{is_touched-touch}
use Rattle.rv_machine.specs.declared.ending.Ending.TheVariants.{Trap}
use Rattle.rv_machine.specs.declared.ending.Trap.TheVariants.{Break, Illegal}
use Rattle.rv_machine.specs.declared.processor.Flow.{Flow}
use Rattle.rv_machine.specs.declared.processor.Flow.TheVariants.{Next, Stopped}
use Rattle.rv_machine.specs.declared.processor.Flow.TheVariants as flow
use Rattle.rv_machine.specs.declared.processor.Stored.{Stored}
use Rattle.rv_machine.specs.declared.processor.Stop.TheVariants.{Ended}
use Rattle.rv_machine.specs.Decoded.{DiffersAt, IsWritten, instr_of}
use Rattle.rv_machine.specs.Hart.{Hart, address, reg, gives, next_pc}
use Rattle.rv_machine.specs.Operations.{operation, instruction, performed, fetched, loads, stores}
use Rattle.rv_machine.specs.Storage.{Storage, hart_of}
use Rattle.rv_machine.proofs.Kept.{keeps_touch, keeps_trans}
use Rattle.rv_machine.specs.Executing.{Does, IsBreak}

-- the instruction of a page that is touched is carried out there
pub instruction_touched : (h : Hart) → memory.is_touched h.memory (h.pc / 4096) ≡ true → instruction h ≡ performed h (instruction_of (memory.word_at h.memory h.pc))
instruction_touched h t = rw t refl

pub decoded_does : (h : Hart) (i : Instr) (r : Flow) (new : Storage) → memory.is_touched h.memory (h.pc / 4096) ≡ true → instruction_of (memory.word_at h.memory h.pc) ≡ Some (instr_of i) →
    Does h r (operation i.op h (instr_of i)) new → Does h r (instruction h) new
decoded_does h i r new t e d = rw (instruction_touched h t, e) d

pub illegal_does : (h : Hart) (new : Storage) → memory.is_touched h.memory (h.pc / 4096) ≡ true → instruction_of (memory.word_at h.memory h.pc) ≡ None → hart_of new h.pc ≡ h →
    Does h (Stopped (Ended (Trap Illegal))) (instruction h) new
illegal_does h new t e same = rw (instruction_touched h t, e) (refl, same, same)

break_done : (h : Hart) (new : Storage) (o : Option Instr) → IsBreak o → hart_of new h.pc ≡ h → Does h (Stopped (Ended (Trap Break))) (performed h o) new
break_done h new None b same = absurd b
break_done h new (Some i) b same = rw b (refl, same, same)

pub break_does : (h : Hart) (new : Storage) → memory.is_touched h.memory (h.pc / 4096) ≡ true → IsBreak (instruction_of (memory.word_at h.memory h.pc)) → hart_of new h.pc ≡ h →
    Does h (Stopped (Ended (Trap Break))) (instruction h) new
break_does h new t b same = rw (instruction_touched h t) (break_done h new (instruction_of (memory.word_at h.memory h.pc)) b same)

-- an allowed load, whatever it loads, is what the instruction does; u is how the storage s is seen inside
load_done : (n : ℕ) (value : memory.State → ℕ → ℕ) (h g : Hart) (i : Instr) (at v : ℕ) (r : Flow) (new : Storage) → at ≡ address h i → memory.Allows n h.memory at →
    g ≡ record { regs = h.regs; pc = h.pc; memory = memory.touch h.memory (at / 4096) } → v ≡ value h.memory at → r ≡ Next → Does g r (gives g i v) new → Does h r (loads n value h i) new
load_done n value h g i at v r new e allowed touched loaded next d =
    let f = rw (next, touched, loaded) at d in
    rw (next, ← e, allowed.0, allowed.1) (f.0, keeps_trans h.memory (memory.touch h.memory (at / 4096)) new.memory (keeps_touch h.memory (at / 4096)) f.1)

pub loads_does : (n : ℕ) (value : memory.State → ℕ → ℕ) (s u : Storage) (m : memory.State) (pc : ℕ) (i : Instr) (at v : ℕ) (r : Flow) (new : Storage) → u ≡ s → at ≡ address (hart_of s pc) i → memory.Allows n u.memory at →
    m ≡ memory.touch u.memory (at / 4096) → v ≡ value u.memory at → r ≡ Next → Does (record { regs = u.regs; pc = pc; memory = m }) r (gives (record { regs = u.regs; pc = pc; memory = m }) i v) new →
    Does (hart_of s pc) r (loads n value (hart_of s pc) i) new
loads_does n value s u m pc i at v r new whole e allowed touched loaded next d =
    rw (← whole) (load_done n value (hart_of u pc) (record { regs = u.regs; pc = pc; memory = m }) i at v r new (rw (← whole) at e) allowed (ap (λ (x : memory.State). record { regs = u.regs; pc = pc; memory = x }) touched) loaded next d)

-- an allowed store, whatever it stores, is what the instruction does
store_done : (n : ℕ) (store : memory.State → ℕ → ℕ → memory.State) (h : Hart) (i : Instr) (at v : ℕ) (w : Stored) (new : Storage) → at ≡ address h i → v ≡ reg h i.rs2 → memory.Allows n h.memory at →
    hart_of new (next_pc h) ≡ record { regs = h.regs; pc = next_pc h; memory = store h.memory at v } → IsWritten h.memory new.memory w → Does h (flow.Stored w) (stores n store h i) new
store_done n store h i at v w new e f allowed stored written = rw (← e, ← f, allowed.0, allowed.1) (stored, written)

pub stores_does : (n : ℕ) (store : memory.State → ℕ → ℕ → memory.State) (s u : Storage) (m : memory.State) (pc : ℕ) (i : Instr) (place at v : ℕ) → u ≡ s → at ≡ address (hart_of s pc) i → v ≡ reg (hart_of s pc) i.rs2 →
    memory.Allows n u.memory at → m ≡ store u.memory at v → DiffersAt u.memory m (at / 4 * 4) → place ≡ memory.place m.pages (at / 4096) →
    Does (hart_of s pc) (flow.Stored (record { place = place; at = at })) (stores n store (hart_of s pc) i) (record { regs = u.regs; memory = m })
stores_does n store s u m pc i place at v whole e f allowed stored differs at_place =
    rw (← whole)
    (store_done n store (hart_of u pc) i at v (record { place = place; at = at }) (record { regs = u.regs; memory = m }) (rw (← whole) at e) (rw (← whole) at f) allowed
    (ap (λ (x : memory.State). record { regs = u.regs; pc = next_pc (hart_of u pc); memory = x }) stored) (record { differs = differs; at_place = at_place }))

-- with the page touched the instruction is the same
pub instruction_fetched : (h : Hart) → memory.is_over h.memory (h.pc / 4096) ≡ false → instruction (fetched h) ≡ instruction h
instruction_fetched h within =
    let there : memory.is_touched (memory.touch h.memory (h.pc / 4096)) (h.pc / 4096) ≡ true = is_touched-touch h.memory (h.pc / 4096) in
    let whole : instruction h ≡ performed (fetched h) (instruction_of (memory.word_at h.memory h.pc)) = rw within refl in
    instruction_touched (fetched h) there ∙ ap (λ (w : ℕ). performed (fetched h) (instruction_of w)) (word_at_touch h.memory (h.pc / 4096) h.pc) ∙ sym whole
