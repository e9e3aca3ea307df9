use Rattle.std.proofs.Common.{rules}
use Rattle.farm_api.proofs.routes.id_of.Goals as goal

pub returns : goal.returns
returns c = search rules
