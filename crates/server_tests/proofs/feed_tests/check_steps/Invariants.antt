use Rattle.std.proofs.Common.{◌≡◌}
use Rattle.server_tests.proofs.feed_tests.check_steps.Given as goal

abbrev pub invariant-loop-step : goal.invariant-loop-step
invariant-loop-step g l = l.pass.board ≡ l.board.id
