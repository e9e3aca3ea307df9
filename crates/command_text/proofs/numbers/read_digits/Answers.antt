use Rattle.std.proofs.Common.{arith}
use Rattle.std.proofs.lemmas.Grind.{common_steps}
use Rattle.command_text.proofs.NumberLemmas.{over_limit}
use Rattle.command_text.proofs.numbers.read_digits.Goals as goal

pub returns-in_err-number-clause-value : goal.returns-in_err-number-clause-value
returns-in_err-number-clause-value c = grind (arith, over_limit)

pub returns-then-len-word-clause-value : goal.returns-then-len-word-clause-value
returns-then-len-word-clause-value c = grind (arith, common_steps)

pub returns-clause-value : goal.returns-clause-value
returns-clause-value c = grind (arith, common_steps)
