use Rattle.std.proofs.Common.{◌≡◌, length}
use Rattle.problem_settings.specs.Fields.{after_spaces}
use Rattle.problem_settings.proofs.bytes.after_spaces.Given as goal

abbrev pub invariant-loop-left : goal.invariant-loop-left
invariant-loop-left l = after_spaces l.left ≡ after_spaces l.text

abbrev pub decreases-loop-left : goal.decreases-loop-left
decreases-loop-left l = length l.left
