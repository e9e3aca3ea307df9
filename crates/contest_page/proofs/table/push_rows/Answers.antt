use Rattle.contest_page.proofs.Rows.{rows_more}
use Rattle.contest_page.proofs.table.push_rows.Goals as goal

pub loop-i-preserved : goal.loop-i-preserved
loop-i-preserved c =
    rows_more c.args.page.now.items c.loop-i.page.items _ c.args.entries.now c.args.answers.now c.loop-i.i _ _ c.loop-i-test.true c.loop-i.invariant c.entry_at.ensures c.in_ok-push_row.ensures
