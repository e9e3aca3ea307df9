use Rattle.std.proofs.Common.{rules}
use Rattle.decimal_compare.proofs.tolerance.product.Goals as goal

pub returns-else-amount-le-SMALL : goal.returns-else-amount-le-SMALL
returns-else-amount-le-SMALL c = search rules
