use Rattle.std.proofs.Common.{rules}
use Rattle.farm_api.proofs.asking.actor_event.Goals as goal

pub returns-in-Cancel : goal.returns-in-Cancel
returns-in-Cancel c = search rules
