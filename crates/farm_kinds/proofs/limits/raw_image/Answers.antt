use Rattle.std.proofs.Common.{rules}
use Rattle.farm_kinds.proofs.limits.raw_image.Goals as goal

pub returns-then-len-le1048576 : goal.returns-then-len-le1048576
returns-then-len-le1048576 c = search rules
