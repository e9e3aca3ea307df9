use Rattle.judge_commands.proofs.Summaries.{summary_is}
use Rattle.judge_commands.proofs.summary.summary_text.Goals as goal

pub returns : goal.returns
returns c =
    summary_is c.args.table.now c.as_slice-rows.result.now _ _ _ _ c.as_slice-rows.ensures c.new-text.ensures.items c.in_ok-push_kinds.ensures c.in_ok-push_count.ensures
    c.in_ok-push_digest.ensures
