use Rattle.std.proofs.Common.{◌≡◌, length}
use Rattle.problem_settings.specs.Lines.{is_blank}
use Rattle.problem_settings.proofs.bytes.is_blank.Given as goal

abbrev pub invariant-loop-left : goal.invariant-loop-left
invariant-loop-left l = is_blank l.left ≡ is_blank l.text

abbrev pub decreases-loop-left : goal.decreases-loop-left
decreases-loop-left l = length l.left
