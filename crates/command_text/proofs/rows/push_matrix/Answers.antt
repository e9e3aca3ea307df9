use Rattle.std.proofs.Common.{arith}
use Rattle.std.proofs.lemmas.Grind.{common_steps}
use Rattle.command_text.proofs.Joining.{kept_behind}
use Rattle.command_text.proofs.RowLemmas.{matrix_more}
use Rattle.command_text.proofs.rows.push_matrix.Goals as goal

pub returns-in_err-push_matrix_row-clause-err : goal.returns-in_err-push_matrix_row-clause-err
returns-in_err-push_matrix_row-clause-err c = grind (arith, matrix_more, kept_behind)

pub loop-row-preserved : goal.loop-row-preserved
loop-row-preserved c = grind (arith, common_steps)

pub returns-clause-ok : goal.returns-clause-ok
returns-clause-ok c = grind (arith, common_steps)
