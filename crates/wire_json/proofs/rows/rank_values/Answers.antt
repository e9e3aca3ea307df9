use Rattle.std.proofs.Common.{arith}
use Rattle.std.proofs.lemmas.Grind.{common_steps}
use Rattle.wire_json.proofs.RowLists.{ranks_more}
use Rattle.wire_json.proofs.rows.rank_values.Goals as goal

pub loop-rank-preserved : goal.loop-rank-preserved
loop-rank-preserved c = grind (arith, ranks_more)

pub returns : goal.returns
returns c = grind (arith, common_steps)
