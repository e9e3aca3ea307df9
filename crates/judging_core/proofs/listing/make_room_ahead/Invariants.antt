-- The list has room for the first judgings.
use Rattle.std.proofs.Common.{ℕ, ◌+◌, ◌<◌, ◌≤◌, length, get_or}
use Rattle.task_tree.specs.Shown.{tests_listed}
use Rattle.judging_core.specs.Listed.{IsWider}
use Rattle.judging_core.proofs.listing.make_room_ahead.Given as goal

abbrev pub invariant-loop-i : goal.invariant-loop-i
invariant-loop-i l = record {
  wider : IsWider l.fn.tasks l.tasks;
  known : l.judgings + l.i ≤ length l.tasks;
  wide : (k : ℕ) → k < l.i → get_or l.tests k 0 ≤ tests_listed l.tasks (l.judgings + k + 1);
}
