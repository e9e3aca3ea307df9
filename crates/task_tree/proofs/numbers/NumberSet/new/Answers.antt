use Rattle.task_tree.proofs.Levels.{leveled_none}
use Rattle.task_tree.proofs.numbers.NumberSet.new.Goals as goal

pub invariant_of-result : goal.invariant_of-result
invariant_of-result c = rw (c.new.ensures, c.new-2.ensures, c.new-3.ensures) leveled_none
