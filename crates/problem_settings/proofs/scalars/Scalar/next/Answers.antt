use Rattle.std.proofs.Common.{arith}
use Rattle.std.proofs.lemmas.Grind.{common_steps}
use Rattle.problem_settings.proofs.scalars.Scalar.next.Goals as goal

pub returns-in_err-first-in-Plain-clause-cases : goal.returns-in_err-first-in-Plain-clause-cases
returns-in_err-first-in-Plain-clause-cases c = grind (arith, common_steps)
