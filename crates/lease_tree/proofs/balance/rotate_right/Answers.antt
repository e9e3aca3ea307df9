use Rattle.std.proofs.Common.{arith}
use Rattle.std.proofs.lemmas.Grind.{common_steps}
use Rattle.lease_tree.proofs.balance.rotate_right.Goals as goal

pub returns-then-weight-clause-leases : goal.returns-then-weight-clause-leases
returns-then-weight-clause-leases c = grind (arith, common_steps)

pub returns-then-weight-clause-balanced : goal.returns-then-weight-clause-balanced
returns-then-weight-clause-balanced c = grind (arith, common_steps)

pub returns-in_default-inner-clause-leases : goal.returns-in_default-inner-clause-leases
returns-in_default-inner-clause-leases c = grind (arith, common_steps)

pub returns-clause-leases : goal.returns-clause-leases
returns-clause-leases c = grind (arith, common_steps)

pub returns-clause-balanced : goal.returns-clause-balanced
returns-clause-balanced c = grind (arith, common_steps)
