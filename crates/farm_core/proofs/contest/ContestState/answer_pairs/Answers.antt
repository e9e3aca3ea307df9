use Rattle.std.proofs.Common.{arith}
use Rattle.std.proofs.lemmas.Grind.{common_steps}
use Rattle.farm_core.proofs.contest.ContestState.answer_pairs.Goals as goal

pub push_reserved-requires : goal.push_reserved-requires
push_reserved-requires c = grind (arith, common_steps)

pub loop-member-preserved : goal.loop-member-preserved
loop-member-preserved c = grind (arith, common_steps)

pub returns-clause-pairs : goal.returns-clause-pairs
returns-clause-pairs c = grind (arith, common_steps)

pub returns-clause-count : goal.returns-clause-count
returns-clause-count c = grind (arith, common_steps)
