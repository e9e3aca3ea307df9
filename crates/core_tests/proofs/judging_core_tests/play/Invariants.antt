use Rattle.std.proofs.Common.{◌≡◌}
use Rattle.core_tests.proofs.judging_core_tests.play.Given as goal

abbrev pub invariant-loop-step : goal.invariant-loop-step
invariant-loop-step l = l.judge.hosts ≡ l.hosts
