use Rattle.std.specs.Prelude.{ℕ, List}
use Rattle.rv_memory.specs.Paged as memory
use Rattle.rv_machine.specs.Hart.{Hart}

-- what a hart has beside its program counter
pub record Storage : Type 0 where
  pub regs : List ℕ
  pub memory : memory.State

abbrev pub hart_of : Storage → ℕ → Hart
hart_of s pc = record { regs = s.regs; pc = pc; memory = s.memory }
