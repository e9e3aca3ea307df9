use Rattle.std.proofs.Common.{arith}
use Rattle.std.proofs.lemmas.Grind.{common_steps}
use Rattle.problem_settings.proofs.ini.fraction_of.Goals as goal

pub returns-in_err-number-clause-value : goal.returns-in_err-number-clause-value
returns-in_err-number-clause-value c = grind (arith, common_steps)

pub returns-in-1-clause-value : goal.returns-in-1-clause-value
returns-in-1-clause-value c = grind (arith, common_steps)

pub returns-in-2-clause-value : goal.returns-in-2-clause-value
returns-in-2-clause-value c = grind (arith, common_steps)

pub returns-in_default-len-clause-value : goal.returns-in_default-len-clause-value
returns-in_default-len-clause-value c = grind (arith, common_steps)
