use Rattle.std.proofs.Common.{arith}
use Rattle.std.proofs.lemmas.Grind.{common_steps, elements}
use Rattle.judging_core.proofs.prepared.prepare.Goals as goal

pub returns-clause-reserved : goal.returns-clause-reserved
returns-clause-reserved c = grind (arith, common_steps)

pub returns-clause-prepared : goal.returns-clause-prepared
returns-clause-prepared c = grind (arith, elements)

pub returns-clause-ruled : goal.returns-clause-ruled
returns-clause-ruled c = grind (arith, elements)
