use Rattle.std.proofs.Common.{◌≡◌, ◌∙◌, List, ◌∷◌, ◌++◌, Option, Some, None, true, false, rules, ap, subst, arith}
use Rattle.std.proofs.lemmas.Grind.{common_steps}
use Rattle.std.specs.Prelude.{find, IfSome}
use Rattle.farm_model.specs.declared.records.Lease.{Lease}
use Rattle.lease_tree.specs.declared.keys.Key.{Key}
use Rattle.lease_tree.specs.declared.keys.Order.{Order}
use Rattle.lease_tree.specs.Keys.{key_of, is_key_before, has_key, Rising}
use Rattle.lease_tree.specs.Trees.{leases_of}
use Rattle.lease_tree.proofs.Changes.{taken_right}
use Rattle.lease_tree.proofs.Rises.{rising_left, rising_right, key_left, key_right, key_here}
use Rattle.lease_tree.proofs.change.+remove.Goals as goal

-- what stands at the key is what stands there on the left of r, on its right, or r itself
in_left : (by : Order) (all left : List Lease) (r : Lease) (right : List Lease) (key : Key) (o : Option Lease) → all ≡ left ++ r ∷ right → is_key_before key (key_of by r) ≡ true → (Rising by left → find (has_key by key) left ≡ o) → Rising by all → find (has_key by key) all ≡ o
in_left by all left r right key o e lt inner h =
    let up = subst (Rising by) e h in
    ap (find (has_key by key)) e ∙ key_left by left r right key up lt ∙ inner (rising_left by left (r ∷ right) up)

in_right : (by : Order) (all left : List Lease) (r : Lease) (right : List Lease) (key : Key) (o : Option Lease) → all ≡ left ++ r ∷ right → is_key_before (key_of by r) key ≡ true → (Rising by right → find (has_key by key) right ≡ o) → Rising by all → find (has_key by key) all ≡ o
in_right by all left r right key o e lt inner h =
    let up = subst (Rising by) e h in
    ap (find (has_key by key)) e ∙ key_right by left r right key up lt ∙ inner (rising_right by left r right up)

in_root : {X : Type 0} (found root : Option Lease) (lease_of : X → Lease) (o : Option X) → found ≡ root → IfSome o (λ x. root ≡ Some (lease_of x)) → IfSome o (λ x. found ≡ Some (lease_of x))
in_root found root lease_of None e h = h
in_root found root lease_of (Some x) e h = e ∙ h

pub returns-in_err-taken-clause-none : goal.returns-in_err-taken-clause-none
returns-in_err-taken-clause-none t c = λ up.
    let root = c.deref_mut.result.now in
    let old : leases_of c.args.tree.now ≡ leases_of root.left ++ root.lease ∷ leases_of root.right = search rules in
    let lt : is_key_before c.args.key (key_of c.args.order root.lease) ≡ true = search rules in
    let none = in_left c.args.order (leases_of c.args.tree.now) (leases_of root.left) root.lease (leases_of root.right) c.args.key None old lt c.in_err-taken.ensures.none up in
    search rules

pub returns-then-is_before-clause-lease : goal.returns-then-is_before-clause-lease
returns-then-is_before-clause-lease t c =
    let root = c.deref_mut.result.now in
    let old : leases_of c.args.tree.now ≡ leases_of root.left ++ root.lease ∷ leases_of root.right = search rules in
    let lt : is_key_before c.args.key (key_of c.args.order root.lease) ≡ true = search rules in
    in_left c.args.order (leases_of c.args.tree.now) (leases_of root.left) root.lease (leases_of root.right) c.args.key (Some c.in_ok-taken.taken.value.lease) old lt c.in_ok-taken.ensures.lease

pub returns-in_err-taken-2-clause-none : goal.returns-in_err-taken-2-clause-none
returns-in_err-taken-2-clause-none t c = λ up.
    let root = c.deref_mut-then-is_before-2.result.now in
    let old : leases_of c.args.tree.now ≡ leases_of root.left ++ root.lease ∷ leases_of root.right = search rules in
    let lt : is_key_before (key_of c.args.order root.lease) c.args.key ≡ true = search rules in
    let none = in_right c.args.order (leases_of c.args.tree.now) (leases_of root.left) root.lease (leases_of root.right) c.args.key None old lt c.in_err-taken-2.ensures.none up in
    search rules

pub returns-then-is_before-2-clause-lease : goal.returns-then-is_before-2-clause-lease
returns-then-is_before-2-clause-lease t c =
    let root = c.deref_mut-then-is_before-2.result.now in
    let old : leases_of c.args.tree.now ≡ leases_of root.left ++ root.lease ∷ leases_of root.right = search rules in
    let lt : is_key_before (key_of c.args.order root.lease) c.args.key ≡ true = search rules in
    in_right c.args.order (leases_of c.args.tree.now) (leases_of root.left) root.lease (leases_of root.right) c.args.key (Some c.in_ok-taken-2.taken.value.lease) old lt c.in_ok-taken-2.ensures.lease

pub returns-then-is_before-2-clause-taken : goal.returns-then-is_before-2-clause-taken
returns-then-is_before-2-clause-taken t c =
    let root = c.deref_mut-then-is_before-2.result.now in
    let rest = c.remove-then-is_before-2.new.tree in
    let old : leases_of c.args.tree.now ≡ leases_of root.left ++ root.lease ∷ leases_of root.right = search rules in
    let new : leases_of c.if-is_light-2.tree ≡ leases_of root.left ++ root.lease ∷ leases_of rest = search rules in
    rw (old, new) (taken_right (leases_of root.left) root.lease (leases_of root.right) (leases_of rest) c.in_ok-taken-2.taken.value.lease c.in_ok-taken-2.ensures.taken)

pub returns-clause-lease : goal.returns-clause-lease
returns-clause-lease t c = λ up.
    let by = c.args.order in
    let root = c.deref_mut-2.result.now in
    let old : leases_of c.args.tree.now ≡ leases_of root.left ++ root.lease ∷ leases_of root.right = search rules in
    let not_before : is_key_before c.args.key (key_of by root.lease) ≡ false = search rules in
    let not_behind : is_key_before (key_of by root.lease) c.args.key ≡ false = search rules in
    let found : find (has_key by c.args.key) (leases_of c.args.tree.now) ≡ Some root.lease =
    ap (find (has_key by c.args.key)) old ∙ key_here by (leases_of root.left) root.lease (leases_of root.right) c.args.key (subst (Rising by) old up) not_before not_behind in
    let same : root.lease ≡ c.deref_mut-3.result.now.lease = search rules in
    in_root (find (has_key by c.args.key) (leases_of c.args.tree.now)) (Some c.deref_mut-3.result.now.lease) (λ node. node.value.lease) c.replace_root.result (found ∙ ap (λ (lease : Lease). Some lease) same) c.replace_root.ensures.root

pub returns-then-is_before-clause-balanced : goal.returns-then-is_before-clause-balanced
returns-then-is_before-clause-balanced t c = grind (arith, common_steps)

pub returns-clause-taken : goal.returns-clause-taken
returns-clause-taken t c = search rules

pub returns-in_err-taken-clause-sized : goal.returns-in_err-taken-clause-sized
returns-in_err-taken-clause-sized t c = grind (arith, common_steps)

pub returns-in_err-taken-clause-balanced : goal.returns-in_err-taken-clause-balanced
returns-in_err-taken-clause-balanced t c = grind (arith, common_steps)

pub returns-then-is_before-clause-taken : goal.returns-then-is_before-clause-taken
returns-then-is_before-clause-taken t c = grind (arith, common_steps)

pub returns-then-is_before-clause-sized : goal.returns-then-is_before-clause-sized
returns-then-is_before-clause-sized t c = grind (arith, common_steps)

pub returns-in_err-taken-2-clause-sized : goal.returns-in_err-taken-2-clause-sized
returns-in_err-taken-2-clause-sized t c = grind (arith, common_steps)

pub returns-in_err-taken-2-clause-balanced : goal.returns-in_err-taken-2-clause-balanced
returns-in_err-taken-2-clause-balanced t c = grind (arith, common_steps)

pub returns-then-is_before-2-clause-sized : goal.returns-then-is_before-2-clause-sized
returns-then-is_before-2-clause-sized t c = grind (arith, common_steps)

pub returns-then-is_before-2-clause-balanced : goal.returns-then-is_before-2-clause-balanced
returns-then-is_before-2-clause-balanced t c = grind (arith, common_steps)

pub returns-clause-sized : goal.returns-clause-sized
returns-clause-sized t c = grind (arith, common_steps)

pub returns-clause-balanced : goal.returns-clause-balanced
returns-clause-balanced t c = grind (arith, common_steps)
