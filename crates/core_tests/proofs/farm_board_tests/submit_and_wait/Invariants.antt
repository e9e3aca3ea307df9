use Rattle.std.proofs.Common.{◌≡◌}
use Rattle.core_tests.proofs.farm_board_tests.submit_and_wait.Given as goal

abbrev pub invariant-loop-turn : goal.invariant-loop-turn
invariant-loop-turn g l = l.pass.board ≡ l.board.id
