use Rattle.std.proofs.Common.{arith}
use Rattle.std.proofs.lemmas.Grind.{common_steps}
use Rattle.problem_settings.proofs.scalars.Scalar.after_word.Goals as goal

pub returns-then-first-w : goal.returns-then-first-w
returns-then-first-w c = grind (arith, common_steps)

pub loop-w-preserved : goal.loop-w-preserved
loop-w-preserved c = grind (arith, common_steps)

pub returns-then-ends_word : goal.returns-then-ends_word
returns-then-ends_word c = grind (arith, common_steps)

pub returns-else-ends_word : goal.returns-else-ends_word
returns-else-ends_word c = grind (arith, common_steps)
