use Rattle.std.proofs.Common.{rules}
use Rattle.decimal_compare.proofs.amount.read_amount.Goals as goal

pub returns-clause-amount : goal.returns-clause-amount
returns-clause-amount c = search rules
