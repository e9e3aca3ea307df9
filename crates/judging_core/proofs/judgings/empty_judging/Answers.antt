use Rattle.std.proofs.Common.{rules, arith}
use Rattle.std.proofs.lemmas.Grind.{common_steps}
use Rattle.judging_core.proofs.judgings.empty_judging.Goals as goal

pub returns-clause-ruled : goal.returns-clause-ruled
returns-clause-ruled c = search rules

pub returns-clause-short : goal.returns-clause-short
returns-clause-short c = grind (arith, common_steps)
