use Rattle.std.proofs.Common.{arith}
use Rattle.std.proofs.lemmas.Grind.{common_steps}
use Rattle.farm_core.proofs.entries.make_entry.Goals as goal

pub returns-clause-enough : goal.returns-clause-enough
returns-clause-enough c = grind (arith, common_steps)
