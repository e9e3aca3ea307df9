use Rattle.std.proofs.Common.{arith}
use Rattle.std.proofs.lemmas.Grind.{common_steps}
use Rattle.problem_settings.proofs.ScalarLemmas.{single_text_more}
use Rattle.problem_settings.proofs.scalars.next_single.Goals as goal

pub returns-then-first-ne39-clause-cases : goal.returns-then-first-ne39-clause-cases
returns-then-first-ne39-clause-cases c = grind (arith, common_steps)

pub returns-then-second-ne39-clause-cases : goal.returns-then-second-ne39-clause-cases
returns-then-second-ne39-clause-cases c = grind (arith, single_text_more)

pub returns-clause-cases : goal.returns-clause-cases
returns-clause-cases c = grind (arith, common_steps)
