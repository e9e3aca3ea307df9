use Rattle.std.proofs.Common.{arith}
use Rattle.std.proofs.lemmas.Grind.{common_steps}
use Rattle.problem_settings.proofs.sizes.Sizes.of_value.Goals as goal

pub returns-in_default-before_brace-clause-value : goal.returns-in_default-before_brace-clause-value
returns-in_default-before_brace-clause-value c = grind (arith, common_steps)

pub returns-then-is_empty-clause-value : goal.returns-then-is_empty-clause-value
returns-then-is_empty-clause-value c = grind (arith, common_steps)

pub returns-clause-value : goal.returns-clause-value
returns-clause-value c = grind (arith, common_steps)
