use Rattle.std.proofs.Common.{arith}
use Rattle.std.proofs.lemmas.Grind.{common_steps}
use Rattle.contest_folder.proofs.problems.read_problems.Goals as goal

pub returns-clause-few : goal.returns-clause-few
returns-clause-few g c = grind (arith, common_steps)
