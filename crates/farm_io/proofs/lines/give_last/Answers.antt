use Rattle.std.proofs.Common.{arith}
use Rattle.std.proofs.lemmas.Grind.{common_steps}
use Rattle.farm_io.proofs.lines.give_last.Goals as goal

pub returns-clause-cut : goal.returns-clause-cut
returns-clause-cut c = grind (arith, common_steps)
