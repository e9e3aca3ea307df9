use Rattle.std.proofs.Common.{◌≡◌, ◌≤◌, ◌<◌, ◌-◌, ◌^◌, ◌+◌, min, List, ◌∷◌, ◌++◌, rules, sym, ap, ◌∙◌, subst, length}
use Rattle.farm_model.specs.declared.records.Lease.{Lease}
use Rattle.lease_tree.specs.Keys.{group_of, count_below, Rising}
use Rattle.lease_tree.specs.Trees.{leases_of, IsSized}
use Rattle.lease_tree.proofs.Rises.{capped_left, capped_right}
use Rattle.lease_tree.proofs.lookup.+count_below.Goals as goal

pub returns-then-group : goal.returns-then-group
returns-then-group t c = λ sized up.
    let by = c.args.order in
    let x = c.in-Fork.node.value in
    let all : leases_of c.args.tree.now ≡ leases_of x.left ++ x.lease ∷ leases_of x.right = search rules in
    let le : c.args.group ≤ group_of by x.lease = search rules in
    let left_sized : IsSized x.left = search rules in
    let inner : Rising by (leases_of x.left) → c.count_below.result ≡ min (count_below by c.args.group (leases_of x.left)) (2 ^ 32 - 1) = (rw c.deref-then-group.ensures at c.count_below.ensures) left_sized in
    capped_left by (leases_of x.left) x.lease (leases_of x.right) c.args.group c.count_below.result le inner (subst (Rising by) all up) ∙ ap (λ (ls : List Lease). min (count_below by c.args.group ls) (2 ^ 32 - 1)) (sym all)

pub returns-else-group : goal.returns-else-group
returns-else-group t c = λ sized up.
    let by = c.args.order in
    let x = c.in-Fork.node.value in
    let all : leases_of c.args.tree.now ≡ leases_of x.left ++ x.lease ∷ leases_of x.right = search rules in
    let lt : group_of by x.lease < c.args.group = search rules in
    let left_sized : IsSized x.left = search rules in
    let right_sized : IsSized x.right = search rules in
    let inner : Rising by (leases_of x.right) → c.count_below-right.result ≡ min (count_below by c.args.group (leases_of x.right)) (2 ^ 32 - 1) = (rw c.deref-in-Fork.ensures at c.count_below-right.ensures) right_sized in
    let size : c.size.result ≡ min (length (leases_of x.left)) (2 ^ 32 - 1) = (rw c.deref-in-Fork-2.ensures at c.size.ensures) left_sized in
    c.saturating_add-in-Fork.ensures ∙ ap (λ n. min (n + c.count_below-right.result) (2 ^ 32 - 1)) c.saturating_add.ensures ∙ capped_right by (leases_of x.left) x.lease (leases_of x.right) c.args.group c.size.result c.count_below-right.result lt size inner (subst (Rising by) all up) ∙ ap (λ (ls : List Lease). min (count_below by c.args.group ls) (2 ^ 32 - 1)) (sym all)
