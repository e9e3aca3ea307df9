use Rattle.std.proofs.Common.{arith}
use Rattle.std.proofs.lemmas.Grind.{common_steps}
use Rattle.farm_core.proofs.lists.add_judgings.Goals as goal

pub add_reserved-requires-clause-few : goal.add_reserved-requires-clause-few
add_reserved-requires-clause-few c = grind (arith, common_steps)

pub add_reserved-requires-clause-reserved : goal.add_reserved-requires-clause-reserved
add_reserved-requires-clause-reserved c = grind (arith, common_steps)

pub loop-submission-preserved : goal.loop-submission-preserved
loop-submission-preserved c = grind (arith, common_steps)

pub returns-clause-state : goal.returns-clause-state
returns-clause-state c = grind (arith, common_steps)

pub returns-clause-count : goal.returns-clause-count
returns-clause-count c = grind (arith, common_steps)
