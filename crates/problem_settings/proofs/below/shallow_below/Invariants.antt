use Rattle.std.proofs.Common.{◌≡◌, length}
use Rattle.problem_settings.specs.ProblemYaml.{shallow_in}
use Rattle.problem_settings.specs.Views.{lines_at, below}
use Rattle.problem_settings.proofs.below.shallow_below.Given as goal

abbrev pub invariant-loop-left : goal.invariant-loop-left
invariant-loop-left l = shallow_in l.depth (below (lines_at l.left)) ≡ shallow_in l.depth (below (lines_at l.lines))

abbrev pub decreases-loop-left : goal.decreases-loop-left
decreases-loop-left l = length (lines_at l.left)
