use Rattle.std.proofs.Common.{rules}
use Rattle.farm_settings.proofs.settings.Settings.lease.Goals as goal

pub returns-clause-value : goal.returns-clause-value
returns-clause-value c = search rules
