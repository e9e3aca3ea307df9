use Rattle.std.proofs.Common.{rules}
use Rattle.judging_core.proofs.open.is_open.Goals as goal

pub returns : goal.returns
returns c = search rules
