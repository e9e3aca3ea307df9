use Rattle.std.proofs.Common.{rules}
use Rattle.farm_api.proofs.serving.end_with.Goals as goal

pub returns-in-Cut-clause-puts : goal.returns-in-Cut-clause-puts
returns-in-Cut-clause-puts c = search rules
