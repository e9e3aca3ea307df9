use Rattle.std.proofs.Common.{◌≡◌}
use Rattle.core_tests.proofs.farm_board_tests.submit_and_look.Given as goal

abbrev pub invariant-loop-round : goal.invariant-loop-round
invariant-loop-round g l = l.pass.board ≡ l.board.id
