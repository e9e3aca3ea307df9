use Rattle.std.proofs.Common.{◌≡◌}
use Rattle.server_tests.proofs.feed_tests.board_of.Given as goal

abbrev pub invariant-loop-line : goal.invariant-loop-line
invariant-loop-line g l = (l.pass.board ≡ l.board.id) × (l.pass.spare ≡ 1)
