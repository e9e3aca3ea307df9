use Rattle.std.proofs.Common.{arith}
use Rattle.task_tree.proofs.Bitwise.{zero_pushed}
use Rattle.task_tree.proofs.words.Words.extend_to.Goals as goal

pub returns-in_ok-push-clause-same : goal.returns-in_ok-push-clause-same
returns-in_ok-push-clause-same c = grind (arith, zero_pushed)
