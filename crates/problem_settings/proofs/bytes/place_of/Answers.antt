use Rattle.std.proofs.Common.{arith}
use Rattle.std.proofs.lemmas.Grind.{common_steps}
use Rattle.problem_settings.proofs.bytes.place_of.Goals as goal

pub returns-then-b-sep-clause-value : goal.returns-then-b-sep-clause-value
returns-then-b-sep-clause-value c = grind (arith, common_steps)

pub loop-i-preserved : goal.loop-i-preserved
loop-i-preserved c = grind (arith, common_steps)

pub returns-clause-value : goal.returns-clause-value
returns-clause-value c = grind (arith, common_steps)
