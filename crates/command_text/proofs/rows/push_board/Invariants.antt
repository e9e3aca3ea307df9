use Rattle.std.proofs.Common.{◌≡◌, ◌++◌, take}
use Rattle.farm_model.specs.Texts.{board_lines}
use Rattle.command_text.proofs.rows.push_board.Given as goal

abbrev pub invariant-loop-i : goal.invariant-loop-i
invariant-loop-i l = l.out.items ≡ l.fn.out.items ++ board_lines 1 (take l.i l.answers)
