use Rattle.std.proofs.Common.{◌≡◌, length}
use Rattle.problem_settings.specs.Scalars.{single_after}
use Rattle.problem_settings.proofs.scalars.single_after.Given as goal

abbrev pub invariant-loop-left : goal.invariant-loop-left
invariant-loop-left l = single_after l.left ≡ single_after l.text

abbrev pub decreases-loop-left : goal.decreases-loop-left
decreases-loop-left l = length l.left
