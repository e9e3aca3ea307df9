use Rattle.std.proofs.Common.{arith}
use Rattle.rv_memory.proofs.Laws.{changes_store32, touches_store32}
use Rattle.rv_memory.proofs.memory.Memory.store32.Goals as goal

pub returns-clause-changes : goal.returns-clause-changes
returns-clause-changes c = grind (arith, changes_store32, touches_store32)

pub returns-clause-touches : goal.returns-clause-touches
returns-clause-touches c = grind (arith, changes_store32, touches_store32)
