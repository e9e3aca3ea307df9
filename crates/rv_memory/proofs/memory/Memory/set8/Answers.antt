use Rattle.std.proofs.Common.{arith}
use Rattle.std.proofs.lemmas.Grind.{common_steps}
use Rattle.rv_memory.proofs.memory.Memory.set8.Goals as goal

pub returns-clause-place : goal.returns-clause-place
returns-clause-place c = grind (arith, common_steps)

pub returns-clause-stored : goal.returns-clause-stored
returns-clause-stored c = grind (arith, common_steps)
