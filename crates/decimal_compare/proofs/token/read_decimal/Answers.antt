use Rattle.std.proofs.Common.{rules}
use Rattle.decimal_compare.specs.Decimal.{decimal_of}
use Rattle.decimal_compare.proofs.token.read_decimal.Goals as goal

pub returns : goal.returns
unfolding decimal_of
returns c = search rules
