use Rattle.std.proofs.Common.{◌≡◌, length}
use Rattle.problem_settings.specs.Fields.{has_tab}
use Rattle.problem_settings.proofs.bytes.has_tab.Given as goal

abbrev pub invariant-loop-left : goal.invariant-loop-left
invariant-loop-left l = has_tab l.left ≡ has_tab l.text

abbrev pub decreases-loop-left : goal.decreases-loop-left
decreases-loop-left l = length l.left
