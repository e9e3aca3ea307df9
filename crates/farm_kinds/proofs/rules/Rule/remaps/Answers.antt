use Rattle.std.proofs.Common.{rules}
use Rattle.farm_kinds.proofs.rules.Rule.remaps.Goals as goal

pub returns : goal.returns
returns c = search rules
