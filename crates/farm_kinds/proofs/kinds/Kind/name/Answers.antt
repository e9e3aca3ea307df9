use Rattle.std.proofs.Common.{rules}
use Rattle.farm_kinds.proofs.kinds.Kind.name.Goals as goal

pub returns-in-OutputLimit : goal.returns-in-OutputLimit
returns-in-OutputLimit c = search rules
