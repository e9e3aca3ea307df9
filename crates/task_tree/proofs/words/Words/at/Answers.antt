use Rattle.std.proofs.Common.{rules}
use Rattle.task_tree.proofs.words.Words.at.Goals as goal

pub returns-clause-cost : goal.returns-clause-cost
returns-clause-cost c = search rules
