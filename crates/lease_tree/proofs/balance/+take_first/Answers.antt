use Rattle.std.proofs.Common.{arith}
use Rattle.std.proofs.lemmas.Grind.{common_steps}
use Rattle.lease_tree.proofs.balance.+take_first.Goals as goal

pub returns-clause-sized : goal.returns-clause-sized
returns-clause-sized t c = grind (arith, common_steps)

pub returns-clause-balanced : goal.returns-clause-balanced
returns-clause-balanced t c = grind (arith, common_steps)
