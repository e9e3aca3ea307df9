use Rattle.task_tree.proofs.Levels.{leveled_insert}
use Rattle.task_tree.proofs.numbers.NumberSet.insert.Goals as goal

pub invariant_of-self : goal.invariant_of-self
invariant_of-self c =
    let a = c.self.inside in
    leveled_insert a.bottom a.middle a.top c.insert.new.self c.insert-2.new.self c.insert-3.new.self c.args.number c.self.invariant c.insert.ensures c.insert-2.ensures c.insert-3.ensures
