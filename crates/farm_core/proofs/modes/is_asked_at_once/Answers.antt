use Rattle.std.proofs.Common.{rules}
use Rattle.farm_core.proofs.modes.is_asked_at_once.Goals as goal

pub returns-in-Some-OnDemand : goal.returns-in-Some-OnDemand
returns-in-Some-OnDemand c = search rules
