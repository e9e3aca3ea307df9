use Rattle.std.proofs.Common.{rules}
use Rattle.decimal_compare.proofs.size.whole_units.Goals as goal

pub returns-then-exponent : goal.returns-then-exponent
returns-then-exponent c = search rules
