use Rattle.std.proofs.Common.{rules}
use Rattle.farm_tree.proofs.disk.meaning.Goals as goal

pub returns-in_default : goal.returns-in_default
returns-in_default c = search rules
