use Rattle.std.proofs.Common.{arith}
use Rattle.std.proofs.lemmas.Grind.{common_steps}
use Rattle.rv_memory.proofs.memory.Memory.add.Goals as goal

pub remember-requires-clause-recent : goal.remember-requires-clause-recent
remember-requires-clause-recent c = grind (arith, common_steps)

pub remember-requires-clause-there : goal.remember-requires-clause-there
remember-requires-clause-there c = grind (arith, common_steps)

pub remember-requires-clause-number : goal.remember-requires-clause-number
remember-requires-clause-number c = grind (arith, common_steps)

pub invariant_of-self-2 : goal.invariant_of-self-2
invariant_of-self-2 c = grind (arith, common_steps)
