use Rattle.farm_laws.proofs.Outputs.{output_is_replayed}
use Rattle.farm_laws.proofs.Promised.{prefix_keeps_promise, whole_is_written}
use Rattle.farm_laws.proofs.laws.output_keeps_promise.Goals as goal

pub returns-clause-replayed : goal.returns-clause-replayed
returns-clause-replayed c = output_is_replayed

pub returns-clause-prefix : goal.returns-clause-prefix
returns-clause-prefix c = prefix_keeps_promise

pub returns-clause-whole : goal.returns-clause-whole
returns-clause-whole c = whole_is_written
