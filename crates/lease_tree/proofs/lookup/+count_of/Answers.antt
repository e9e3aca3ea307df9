use Rattle.std.proofs.Common.{◌≡◌, ◌<◌, ◌-◌, ◌^◌, ◌+◌, min, ◌∷◌, ◌++◌, rules, sym, ap, ◌∙◌, subst, length, arith}
use Rattle.std.specs.Prelude.{count_by}
use Rattle.std.proofs.lemmas.List.{length-append}
use Rattle.std.proofs.lemmas.List.Sums.{count_by-le-length}
use Rattle.lease_tree.specs.Keys.{group_of, has_group, count_below, Rising}
use Rattle.lease_tree.specs.Trees.{leases_of, IsSized}
use Rattle.lease_tree.proofs.Rises.{below, rising_left, rising_right}
use Rattle.lease_tree.proofs.Groups.{group_on_left, group_on_right, group_on_both}
use Rattle.lease_tree.proofs.lookup.+count_of.Goals as goal

pub returns-then-group-here : goal.returns-then-group-here
returns-then-group-here t c = λ sized few up.
    let by = c.args.order in
    let x = c.in-Fork.node.value in
    let all : leases_of c.args.tree.now ≡ leases_of x.left ++ x.lease ∷ leases_of x.right = search rules in
    let rising : Rising by (leases_of x.left ++ x.lease ∷ leases_of x.right) = subst (Rising by) all up in
    let lt : c.args.group < group_of by x.lease = search rules in
    let left_sized : IsSized x.left = search rules in
    let short : length (leases_of x.left) < 2 ^ 32 = omega (arith, few, ap length all, length-append (leases_of x.left) (x.lease ∷ leases_of x.right)) in
    let inner : c.count_of.result ≡ count_by (has_group by c.args.group) (leases_of x.left) = (rw c.deref-then-group-here.ensures at c.count_of.ensures) left_sized short (rising_left by (leases_of x.left) (x.lease ∷ leases_of x.right) rising) in
    inner ∙ sym (group_on_left by (leases_of x.left) x.lease (leases_of x.right) c.args.group rising lt) ∙ ap (count_by (has_group by c.args.group)) (sym all)

pub returns-then-here-group : goal.returns-then-here-group
returns-then-here-group t c = λ sized few up.
    let by = c.args.order in
    let x = c.in-Fork.node.value in
    let all : leases_of c.args.tree.now ≡ leases_of x.left ++ x.lease ∷ leases_of x.right = search rules in
    let rising : Rising by (leases_of x.left ++ x.lease ∷ leases_of x.right) = subst (Rising by) all up in
    let lt : group_of by x.lease < c.args.group = search rules in
    let right_sized : IsSized x.right = search rules in
    let short : length (leases_of x.right) < 2 ^ 32 = omega (arith, few, ap length all, length-append (leases_of x.left) (x.lease ∷ leases_of x.right)) in
    let inner : c.count_of-then-here-group.result ≡ count_by (has_group by c.args.group) (leases_of x.right) = (rw c.deref-then-here-group.ensures at c.count_of-then-here-group.ensures) right_sized short (rising_right by (leases_of x.left) x.lease (leases_of x.right) rising) in
    inner ∙ sym (group_on_right by (leases_of x.left) x.lease (leases_of x.right) c.args.group rising lt) ∙ ap (count_by (has_group by c.args.group)) (sym all)

pub returns-else-here-group : goal.returns-else-here-group
returns-else-here-group t c = λ sized few up.
    let by = c.args.order in
    let group = c.args.group in
    let x = c.in-Fork.node.value in
    let left = leases_of x.left in
    let right = leases_of x.right in
    let all : leases_of c.args.tree.now ≡ left ++ x.lease ∷ right = search rules in
    let rising : Rising by (left ++ x.lease ∷ right) = subst (Rising by) all up in
    let same : group_of by x.lease ≡ group = search rules in
    let left_sized : IsSized x.left = search rules in
    let right_sized : IsSized x.right = search rules in
    let before : c.count_below-before.result ≡ min (count_below by group left) (2 ^ 32 - 1) = (rw c.deref-in-Fork.ensures at c.count_below-before.ensures) left_sized (rising_left by left (x.lease ∷ right) rising) in
    let size : c.size.result ≡ min (length left) (2 ^ 32 - 1) = (rw c.deref-in-Fork-2.ensures at c.size.ensures) left_sized in
    let after : c.count_below-right.result ≡ min (count_below by (group + 1) right) (2 ^ 32 - 1) = (rw c.deref-in-Fork-3.ensures at c.count_below-right.ensures) right_sized (rising_right by left x.lease right rising) in
    let whole : count_by (has_group by group) (left ++ x.lease ∷ right) + count_below by group left ≡ length left + 1 + count_below by (group + 1) right = group_on_both by left x.lease right group rising same in
    let result : c.saturating_add-in-Fork.result ≡ count_by (has_group by group) (left ++ x.lease ∷ right) =
    omega (arith, before, size, after, whole, few, ap length all, length-append left (x.lease ∷ right), count_by-le-length (below by group) left, count_by-le-length (below by (group + 1)) right, count_by-le-length (has_group by group) (left ++ x.lease ∷ right), c.saturating_sub-left.ensures, c.saturating_add.ensures, c.saturating_add-in-Fork.ensures) in
    result ∙ ap (count_by (has_group by group)) (sym all)
