use Rattle.std.proofs.Common.{◌≡◌, length}
use Rattle.core_tests.proofs.lazy_stop_tests.play.Given as goal

abbrev pub invariant-loop-step : goal.invariant-loop-step
invariant-loop-step l = (l.row.rule ≡ l.rule) × (length l.row.cells ≡ l.tests)
