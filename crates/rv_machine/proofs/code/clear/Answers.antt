use Rattle.std.proofs.Common.{arith}
use Rattle.std.proofs.lemmas.Grind.{common_steps}
use Rattle.rv_machine.proofs.code.clear.Goals as goal

pub returns-then-k-len-clause-count : goal.returns-then-k-len-clause-count
returns-then-k-len-clause-count c = grind (arith, common_steps)

pub returns-then-k-len-clause-whole : goal.returns-then-k-len-clause-whole
returns-then-k-len-clause-whole c = grind (arith, common_steps)

pub returns-then-k-len-clause-there : goal.returns-then-k-len-clause-there
returns-then-k-len-clause-there c = grind (arith, common_steps)

pub returns-then-k-len-clause-others : goal.returns-then-k-len-clause-others
returns-then-k-len-clause-others c = grind (arith, common_steps)

pub returns-else-k-len-clause-there : goal.returns-else-k-len-clause-there
returns-else-k-len-clause-there c = grind (arith, common_steps)
