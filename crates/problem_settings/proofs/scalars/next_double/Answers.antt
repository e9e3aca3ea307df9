use Rattle.std.proofs.Common.{arith}
use Rattle.std.proofs.lemmas.Grind.{common_steps}
use Rattle.problem_settings.proofs.scalars.next_double.Goals as goal

pub returns-then-first-ne92-clause-cases : goal.returns-then-first-ne92-clause-cases
returns-then-first-ne92-clause-cases c = grind (arith, common_steps)

pub returns-clause-cases : goal.returns-clause-cases
returns-clause-cases c = grind (arith, common_steps)
