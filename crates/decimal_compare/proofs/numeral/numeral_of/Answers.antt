use Rattle.std.proofs.Common.{rules}
use Rattle.decimal_compare.specs.Decimal.{numeral_of}
use Rattle.decimal_compare.proofs.numeral.numeral_of.Goals as goal

pub returns-clause-some : goal.returns-clause-some
unfolding numeral_of
returns-clause-some c = search rules
