use Rattle.std.proofs.Common.{rules}
use Rattle.farm_settings.proofs.settings.Settings.set_each.Goals as goal

pub returns : goal.returns
returns c = search rules
