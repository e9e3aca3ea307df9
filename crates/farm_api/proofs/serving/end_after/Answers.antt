use Rattle.std.proofs.Common.{rules}
use Rattle.farm_api.proofs.serving.end_after.Goals as goal

pub returns-in-Closed : goal.returns-in-Closed
returns-in-Closed c = search rules
