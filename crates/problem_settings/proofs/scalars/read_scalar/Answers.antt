use Rattle.std.proofs.Common.{arith}
use Rattle.std.proofs.lemmas.Grind.{common_steps}
use Rattle.problem_settings.proofs.scalars.read_scalar.Goals as goal

pub returns-in_err-single_after : goal.returns-in_err-single_after
returns-in_err-single_after c = grind (arith, common_steps)

pub returns-then-first-eq39 : goal.returns-then-first-eq39
returns-then-first-eq39 c = grind (arith, common_steps)

pub returns-in_err-double_after : goal.returns-in_err-double_after
returns-in_err-double_after c = grind (arith, common_steps)

pub returns-then-first-eq34 : goal.returns-then-first-eq34
returns-then-first-eq34 c = grind (arith, common_steps)
