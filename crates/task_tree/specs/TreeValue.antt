-- What a task tree is, and what holds in one.
use Rattle.std.specs.Prelude.{◌≤◌, List, length}
use Rattle.farm_model.specs.Limits.{max_judgings}
use Rattle.task_tree.specs.Shown.{JudgingTasks}
use Rattle.task_tree.specs.TreeLayout.{tasks_values, AreSized, IsIndexed}
use Rattle.task_tree.specs.declared.tree.TaskTree.TheInside.{Inside}

abbrev pub tree_value : Inside → List JudgingTasks
tree_value a = tasks_values a.judgings.items

pub record IsTree (a : Inside) : Type 0 where
  pub few : length a.judgings.items ≤ max_judgings
  pub sized : AreSized a.judgings.items
  pub indexed : IsIndexed a.judgings.items a.classes
