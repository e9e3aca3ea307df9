use Rattle.std.proofs.Common.{arith}
use Rattle.std.proofs.lemmas.Grind.{common_steps}
use Rattle.wire_json.proofs.RowLists.{matrix_more}
use Rattle.wire_json.proofs.rows.matrix_rows.Goals as goal

pub loop-row-preserved : goal.loop-row-preserved
loop-row-preserved c = grind (arith, matrix_more)

pub returns : goal.returns
returns c = grind (arith, common_steps)
