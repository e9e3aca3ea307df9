use Rattle.std.proofs.Common.{rules}
use Rattle.farm_settings.proofs.settings.Settings.set_remaps.Goals as goal

pub returns-in_err-self-inside : goal.returns-in_err-self-inside
returns-in_err-self-inside c = search rules

pub returns : goal.returns
returns c = search rules
