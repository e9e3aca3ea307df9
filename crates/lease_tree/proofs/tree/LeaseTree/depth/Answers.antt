use Rattle.std.proofs.Common.{◌<◌, ◌^◌, sym, ap, subst, arith, length}
use Rattle.lease_tree.specs.TreeValue.{OrderedLeases}
use Rattle.lease_tree.proofs.Weights.{shallow}
use Rattle.lease_tree.proofs.tree.LeaseTree.depth.Goals as goal

pub returns : goal.returns
returns c = λ bits few.
    let same = ap (λ (v : OrderedLeases). length v.leases) c.self.view_is in
    omega (arith, c.depth.ensures, shallow c.self.inside.root bits c.self.invariant.balanced (subst (λ n. n < 2 ^ bits) (sym same) few))
