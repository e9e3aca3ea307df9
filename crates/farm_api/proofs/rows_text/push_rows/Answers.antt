use Rattle.std.proofs.Common.{arith}
use Rattle.std.proofs.lemmas.Grind.{common_steps}
use Rattle.farm_api.proofs.RowTexts.{rows_more}
use Rattle.farm_api.proofs.rows_text.push_rows.Goals as goal

pub loop-i-preserved : goal.loop-i-preserved
loop-i-preserved c =
    rows_more c.args.out.now.items c.loop-i.out.items _ c.args.answers.now c.loop-i.i _ c.loop-i-test.true c.loop-i.invariant c.in_ok-push_row.ensures

pub returns : goal.returns
returns c = grind (arith, common_steps)
