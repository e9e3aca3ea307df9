-- The tests of the judgings that the loop has passed are counted.
use Rattle.std.proofs.Common.{◌≡◌, ◌+◌, ◌-◌, ◌^◌, min, take}
use Rattle.judging_core.specs.JudgeShape.{cells_in}
use Rattle.judging_core.proofs.room.tests_with.Given as goal

abbrev pub invariant-loop-kept : goal.invariant-loop-kept
invariant-loop-kept l = l.all ≡ min (l.tests + cells_in (take l.kept-index l.prepared)) (2 ^ 32 - 1)
