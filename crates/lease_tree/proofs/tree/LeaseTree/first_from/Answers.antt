use Rattle.std.proofs.Common.{subst}
use Rattle.std.specs.Prelude.{IfSome}
use Rattle.lease_tree.specs.Keys.{is_from, NoneEarlier}
use Rattle.lease_tree.specs.TreeValue.{OrderedLeases}
use Rattle.lease_tree.specs.Trees.{leases_of}
use Rattle.lease_tree.proofs.Bounds.{least_if}
use Rattle.lease_tree.proofs.tree.LeaseTree.first_from.Goals as goal

pub returns-clause-least : goal.returns-clause-least
returns-clause-least c =
    let a = c.self.inside in
    let rising = c.self.invariant.rising in
    subst (λ (v : OrderedLeases). IfSome c.first_from.result (λ lease. NoneEarlier v.order (is_from v.order c.args.key) v.leases lease)) c.self.view_is
    (least_if a.order (is_from a.order c.args.key) (leases_of a.root) c.first_from.result (c.first_from.ensures rising) rising)
