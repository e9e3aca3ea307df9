use Rattle.std.proofs.Common.{rules, arith}
use Rattle.std.proofs.lemmas.Grind.{common_steps}
use Rattle.rv_memory.proofs.memory.Memory.touch.Goals as goal

pub returns-then-n-self-clause-refused : goal.returns-then-n-self-clause-refused
returns-then-n-self-clause-refused c = search rules

pub returns-in-Ok-clause-ok : goal.returns-in-Ok-clause-ok
returns-in-Ok-clause-ok c = grind (arith, common_steps)
