use Rattle.std.proofs.Common.{rules}
use Rattle.farm_tree.proofs.disk.read_prefix.Goals as goal

pub returns-in-Ok : goal.returns-in-Ok
returns-in-Ok c = search rules
