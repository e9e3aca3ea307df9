use Rattle.std.proofs.Common.{rules}
use Rattle.decimal_compare.proofs.tolerance.is_within_relative.Goals as goal

pub returns : goal.returns
returns c = search rules
