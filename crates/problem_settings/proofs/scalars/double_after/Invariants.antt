use Rattle.std.proofs.Common.{◌≡◌, length}
use Rattle.problem_settings.specs.Scalars.{double_after}
use Rattle.problem_settings.proofs.scalars.double_after.Given as goal

abbrev pub invariant-loop-left : goal.invariant-loop-left
invariant-loop-left l = double_after l.left ≡ double_after l.text

abbrev pub decreases-loop-left : goal.decreases-loop-left
decreases-loop-left l = length l.left
