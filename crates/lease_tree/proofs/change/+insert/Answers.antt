use Rattle.std.proofs.Common.{◌≡◌, List, ◌∷◌, ◌++◌, true, false, rules, sym, subst, arith}
use Rattle.std.proofs.lemmas.Grind.{common_steps}
use Rattle.farm_model.specs.declared.records.Lease.{Lease}
use Rattle.lease_tree.specs.declared.keys.Order.{Order}
use Rattle.lease_tree.specs.Keys.{key_of, is_key_before, Rising, IsAdded}
use Rattle.lease_tree.specs.Trees.{leases_of}
use Rattle.lease_tree.proofs.Changes.{IsFree, added_right, grown_left, grown_right}
use Rattle.lease_tree.proofs.change.+insert.Goals as goal

-- the lease went to the left of r, or to its right
went_left : (by : Order) (all old new : List Lease) (r : Lease) (right : List Lease) (x : Lease) → all ≡ old ++ r ∷ right → is_key_before (key_of by x) (key_of by r) ≡ true → IsAdded old new x → (Rising by old → IsFree by (key_of by x) old → Rising by new)
    → Rising by all → IsFree by (key_of by x) all → Rising by (new ++ r ∷ right)
went_left by all old new r right x e lt added inner up none =
    grown_left by old new r right x lt added inner (subst (Rising by) e up) (subst (IsFree by (key_of by x)) e none)

went_right : (by : Order) (all left : List Lease) (r : Lease) (old new : List Lease) (x : Lease) → all ≡ left ++ r ∷ old → is_key_before (key_of by x) (key_of by r) ≡ false → IsAdded old new x → (Rising by old → IsFree by (key_of by x) old → Rising by new)
    → Rising by all → IsFree by (key_of by x) all → Rising by (left ++ r ∷ new)
went_right by all left r old new x e ge added inner up none =
    grown_right by left r old new x ge added inner (subst (Rising by) e up) (subst (IsFree by (key_of by x)) e none)

pub returns-then-is_heavy-clause-rising : goal.returns-then-is_heavy-clause-rising
returns-then-is_heavy-clause-rising t c = λ up none.
    let by = c.args.order in
    let x = c.args.node.value.lease in
    let root = c.deref_mut-then-is_before.result.now in
    let all : leases_of c.args.tree.now ≡ leases_of root.left ++ root.lease ∷ leases_of root.right = search rules in
    let lt : is_key_before (key_of by x) (key_of by root.lease) ≡ true = search rules in
    let new : leases_of c.rebalance.new.tree ≡ leases_of c.insert.new.tree ++ root.lease ∷ leases_of root.right = search rules in
    subst (Rising by) (sym new) (went_left by (leases_of c.args.tree.now) (leases_of root.left) (leases_of c.insert.new.tree) root.lease (leases_of root.right) x all lt c.insert.ensures.added c.insert.ensures.rising up none)

pub returns-else-is_heavy-clause-rising : goal.returns-else-is_heavy-clause-rising
returns-else-is_heavy-clause-rising t c = λ up none.
    let by = c.args.order in
    let x = c.args.node.value.lease in
    let root = c.deref_mut-then-is_before.result.now in
    let all : leases_of c.args.tree.now ≡ leases_of root.left ++ root.lease ∷ leases_of root.right = search rules in
    let lt : is_key_before (key_of by x) (key_of by root.lease) ≡ true = search rules in
    went_left by (leases_of c.args.tree.now) (leases_of root.left) (leases_of c.insert.new.tree) root.lease (leases_of root.right) x all lt c.insert.ensures.added c.insert.ensures.rising up none

pub returns-then-is_heavy-2-clause-rising : goal.returns-then-is_heavy-2-clause-rising
returns-then-is_heavy-2-clause-rising t c = λ up none.
    let by = c.args.order in
    let x = c.args.node.value.lease in
    let root = c.deref_mut-else-is_before.result.now in
    let all : leases_of c.args.tree.now ≡ leases_of root.left ++ root.lease ∷ leases_of root.right = search rules in
    let ge : is_key_before (key_of by x) (key_of by root.lease) ≡ false = search rules in
    let new : leases_of c.rebalance-then-is_heavy-2.new.tree ≡ leases_of root.left ++ root.lease ∷ leases_of c.insert-else-is_before.new.tree = search rules in
    subst (Rising by) (sym new) (went_right by (leases_of c.args.tree.now) (leases_of root.left) root.lease (leases_of root.right) (leases_of c.insert-else-is_before.new.tree) x all ge c.insert-else-is_before.ensures.added c.insert-else-is_before.ensures.rising up none)

pub returns-else-is_heavy-2-clause-rising : goal.returns-else-is_heavy-2-clause-rising
returns-else-is_heavy-2-clause-rising t c = λ up none.
    let by = c.args.order in
    let x = c.args.node.value.lease in
    let root = c.deref_mut-else-is_before.result.now in
    let all : leases_of c.args.tree.now ≡ leases_of root.left ++ root.lease ∷ leases_of root.right = search rules in
    let ge : is_key_before (key_of by x) (key_of by root.lease) ≡ false = search rules in
    went_right by (leases_of c.args.tree.now) (leases_of root.left) root.lease (leases_of root.right) (leases_of c.insert-else-is_before.new.tree) x all ge c.insert-else-is_before.ensures.added c.insert-else-is_before.ensures.rising up none

pub returns-then-is_heavy-2-clause-added : goal.returns-then-is_heavy-2-clause-added
returns-then-is_heavy-2-clause-added t c =
    let root = c.deref_mut-else-is_before.result.now in
    let all : leases_of c.args.tree.now ≡ leases_of root.left ++ root.lease ∷ leases_of root.right = search rules in
    let new : leases_of c.rebalance-then-is_heavy-2.new.tree ≡ leases_of root.left ++ root.lease ∷ leases_of c.insert-else-is_before.new.tree = search rules in
    rw (all, new) (added_right (leases_of root.left) root.lease (leases_of root.right) (leases_of c.insert-else-is_before.new.tree) c.args.node.value.lease c.insert-else-is_before.ensures.added)

pub returns-else-is_heavy-2-clause-added : goal.returns-else-is_heavy-2-clause-added
returns-else-is_heavy-2-clause-added t c =
    let root = c.deref_mut-else-is_before.result.now in
    let all : leases_of c.args.tree.now ≡ leases_of root.left ++ root.lease ∷ leases_of root.right = search rules in
    rw all (added_right (leases_of root.left) root.lease (leases_of root.right) (leases_of c.insert-else-is_before.new.tree) c.args.node.value.lease c.insert-else-is_before.ensures.added)

pub returns-then-is_heavy-clause-added : goal.returns-then-is_heavy-clause-added
returns-then-is_heavy-clause-added t c = grind (arith, common_steps)

pub returns-then-is_heavy-clause-sized : goal.returns-then-is_heavy-clause-sized
returns-then-is_heavy-clause-sized t c = grind (arith, common_steps)

pub returns-then-is_heavy-clause-balanced : goal.returns-then-is_heavy-clause-balanced
returns-then-is_heavy-clause-balanced t c = grind (arith, common_steps)

pub returns-else-is_heavy-clause-added : goal.returns-else-is_heavy-clause-added
returns-else-is_heavy-clause-added t c = grind (arith, common_steps)

pub returns-else-is_heavy-clause-sized : goal.returns-else-is_heavy-clause-sized
returns-else-is_heavy-clause-sized t c = grind (arith, common_steps)

pub returns-else-is_heavy-clause-balanced : goal.returns-else-is_heavy-clause-balanced
returns-else-is_heavy-clause-balanced t c = grind (arith, common_steps)

pub returns-then-is_heavy-2-clause-sized : goal.returns-then-is_heavy-2-clause-sized
returns-then-is_heavy-2-clause-sized t c = grind (arith, common_steps)

pub returns-then-is_heavy-2-clause-balanced : goal.returns-then-is_heavy-2-clause-balanced
returns-then-is_heavy-2-clause-balanced t c = grind (arith, common_steps)

pub returns-else-is_heavy-2-clause-sized : goal.returns-else-is_heavy-2-clause-sized
returns-else-is_heavy-2-clause-sized t c = grind (arith, common_steps)

pub returns-else-is_heavy-2-clause-balanced : goal.returns-else-is_heavy-2-clause-balanced
returns-else-is_heavy-2-clause-balanced t c = grind (arith, common_steps)
