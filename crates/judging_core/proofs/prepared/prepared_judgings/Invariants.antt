-- The judgings of the last numbers are made, from the last number back.
use Rattle.std.proofs.Common.{◌≡◌, ◌≤◌, length, drop}
use Rattle.judging_core.specs.JudgeShape.{AreRuledBy, reserved_of, ArePrepared}
use Rattle.judging_core.proofs.prepared.prepared_judgings.Given as goal

abbrev pub invariant-loop-left : goal.invariant-loop-left
invariant-loop-left l =
    (l.left ≤ length l.tests) × (reserved_of l.prepared.items ≡ drop l.left l.tests) × ArePrepared l.prepared.items × AreRuledBy l.rule l.prepared.items

abbrev pub decreases-loop-left : goal.decreases-loop-left
decreases-loop-left l = l.left
