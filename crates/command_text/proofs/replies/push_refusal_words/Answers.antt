use Rattle.std.proofs.Common.{arith}
use Rattle.std.proofs.lemmas.Grind.{common_steps}
use Rattle.command_text.proofs.replies.push_refusal_words.Goals as goal

pub returns-in-NoProblem-clause-ok : goal.returns-in-NoProblem-clause-ok
returns-in-NoProblem-clause-ok c = grind (arith, common_steps)

pub returns-in-NoRejudging-clause-ok : goal.returns-in-NoRejudging-clause-ok
returns-in-NoRejudging-clause-ok c = grind (arith, common_steps)

pub returns-in-Unfinished-clause-ok : goal.returns-in-Unfinished-clause-ok
returns-in-Unfinished-clause-ok c = grind (arith, common_steps)
