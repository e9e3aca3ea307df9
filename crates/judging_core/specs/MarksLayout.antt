-- How marks lie in memory: a bit for each test, in words of 64.
use Rattle.std.specs.Prelude.{◌≤◌, ◌*◌, List, Bool, length}
use Rattle.task_tree.specs.TreeLayout.{shown_from}
use Rattle.judging_core.specs.declared.marks.Marks.TheInside.{Inside}

-- for each test whether its bit is set
abbrev pub marks_value : Inside → List Bool
marks_value a = shown_from a.words.items 0 a.tests

-- there is a bit for each test
pub record IsMarksLayout (a : Inside) : Type 0 where
  pub room : a.tests ≤ 64 * length a.words.items
