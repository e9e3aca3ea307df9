use Rattle.std.proofs.Common.{arith, ◌≤◌, ◌∙◌, length}
use Rattle.parallel_judge.proofs.Rosters.{row_next, rows_whole}
use Rattle.parallel_judge.proofs.verdicts.read_table.Goals as goal

pub loop-i-preserved : goal.loop-i-preserved
loop-i-preserved c = record {
  rows = c.in_ok-push.ensures.ok
      ∙ row_next c.args.roster.now c.args.noted.now.farm c.loop-i.noted.farm c.loop-i.rows c.loop-i.i c.submission-team.result c.in_ok-verdict_of.field-0
      c.requires c.submission-team.ensures c.loop-i.invariant.farm c.in_ok-verdict_of.ensures.verdict c.loop-i.invariant.rows;
  farm = c.verdict_of.ensures.same ∙ c.loop-i.invariant.farm;
  journal = λ case_at settings hosts kept. c.verdict_of.ensures.journal case_at settings hosts (c.loop-i.invariant.journal case_at settings hosts kept);
  kept = c.verdict_of.ensures.kept ∙ c.loop-i.invariant.kept;
}

pub returns-clause-rows : goal.returns-clause-rows
returns-clause-rows c =
    let end = c.loop-i-test.false in
    let count = c.submissions-i-end.ensures in
    let all : length c.args.roster.now.submissions ≤ c.loop-i.i = omega (arith, end, count) in
    rows_whole c.args.roster.now c.loop-i.i c.loop-i.rows all c.loop-i.invariant.rows
