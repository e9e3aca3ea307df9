use Rattle.std.proofs.Common.{rules}
use Rattle.farm_kinds.proofs.lists.Numbers.push.Goals as goal

pub returns-clause-ok : goal.returns-clause-ok
returns-clause-ok c = search rules
