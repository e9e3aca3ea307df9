use Rattle.std.proofs.Common.{arith}
use Rattle.std.proofs.lemmas.Grind.{common_steps}
use Rattle.package_folder.proofs.checking.default_check.Goals as goal

pub returns-in-Some-clause-check : goal.returns-in-Some-clause-check
returns-in-Some-clause-check c = grind (arith, common_steps)

pub loop-test-preserved : goal.loop-test-preserved
loop-test-preserved c = grind (arith, common_steps)

pub returns-clause-check : goal.returns-clause-check
returns-clause-check c = grind (arith, common_steps)
