use Rattle.std.proofs.Common.{rules}
use Rattle.farm_settings.proofs.values.mode_of.Goals as goal

pub returns-then-lazy : goal.returns-then-lazy
returns-then-lazy c = search rules

pub returns-else-lazy : goal.returns-else-lazy
returns-else-lazy c = search rules
