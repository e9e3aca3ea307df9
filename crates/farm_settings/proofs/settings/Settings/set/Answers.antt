use Rattle.std.proofs.Common.{rules}
use Rattle.farm_settings.proofs.settings.Settings.set.Goals as goal

pub returns-in_default : goal.returns-in_default
returns-in_default c = search rules
