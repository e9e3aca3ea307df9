use Rattle.std.proofs.Common.{arith}
use Rattle.std.proofs.lemmas.Grind.{common_steps}
use Rattle.wire_json.proofs.RowLists.{board_more}
use Rattle.wire_json.proofs.rows.board_rows.Goals as goal

pub loop-i-preserved : goal.loop-i-preserved
loop-i-preserved c = grind (arith, board_more)

pub returns : goal.returns
returns c = grind (arith, common_steps)
