use Rattle.std.proofs.Common.{◌∙◌, arith}
use Rattle.std.proofs.lemmas.Grind.{common_steps}
use Rattle.command_text.proofs.Joining.{kept_behind}
use Rattle.command_text.proofs.RowLemmas.{board_pushed}
use Rattle.command_text.proofs.rows.push_board.Goals as goal

pub loop-i-preserved : goal.loop-i-preserved
loop-i-preserved c =
    c.in_ok-push_board_row.ensures.ok ∙ board_pushed c.args.out.now.items _ c.args.answers.now c.loop-i.i _ c.loop-i-test.true c.loop-i.invariant

pub returns-in_err-push_board_row-clause-err : goal.returns-in_err-push_board_row-clause-err
returns-in_err-push_board_row-clause-err c = grind (arith, kept_behind)

pub returns-clause-ok : goal.returns-clause-ok
returns-clause-ok c = grind (arith, common_steps)
