-- Trees that have the leases of a book.
use Rattle.std.proofs.Common.{ℕ, ◌≡◌, ◌+◌, ◌≤◌, List, [], ◌∷◌, ◌++◌, Option, Some, None, Bool, true, false, cond, refl, sym, ap, ◌∙◌, subst, arith, length, filter, find, count_by, is_some, eqb}
use Rattle.std.specs.Prelude.{IfSome, ◌&&◌}
use Rattle.std.proofs.lemmas.Bool.Decides.{nat_tests}
use Rattle.std.proofs.lemmas.Bool.{and_parts}
use Rattle.std.proofs.lemmas.List.Sums.{sum_by-append, sum_by-cons}
use Rattle.farm_kinds.specs.declared.outcomes.Task.{Task}
use Rattle.farm_model.specs.declared.records.Lease.{Lease}
use Rattle.farm_model.specs.Leases.{same_task, lease_on, holds, held_count, without_task}
use Rattle.lease_tree.specs.declared.keys.Order.{Order}
use Rattle.lease_tree.specs.declared.keys.Order.TheVariants as order
use Rattle.lease_tree.specs.Keys.{group_of, key_of, has_key, has_group, IsAdded, IsTaken}
use Rattle.lease_tree.specs.TreeValue.{OrderedLeases, no_leases}
use Rattle.lease_book.specs.Book.{IsSinglyLeased}
use Rattle.lease_book.specs.BookLayout.{AreSame, IsIndex}
use Rattle.lease_book.specs.Changes.{EndsOne}
use Rattle.lease_book.proofs.Counts.{one_if, count_cons, count_push, count_parts, count_wider, found_passes, found_counts, none_counts, counts_none, found_only, filter_only}
use Rattle.lease_book.proofs.Singly.{on, is_lease, lease_is, is_itself, held_on, ends_one}

all_counted : (xs : List Lease) → count_by (λ x. true) xs ≡ length xs
all_counted [] = refl
all_counted (x ∷ xs) = omega (arith, count_cons (λ (y : Lease). true) x xs, all_counted xs)

pub length_same : (xs ys : List Lease) → AreSame xs ys → length ys ≡ length xs
length_same xs ys h = sym (all_counted ys) ∙ sym (h.count (λ x. true)) ∙ all_counted xs

-- where at most one lease passes, it is found in any order
pub find_same : (p : Lease → Bool) (xs ys : List Lease) → AreSame xs ys → count_by p xs ≤ 1 → find p ys ≡ find p xs
find_same p xs ys h few =
    let few_too : count_by p ys ≤ 1 = omega (arith, h.count p, few) in
    elim (find p xs) as (λ o. find p xs ≡ o → find p ys ≡ o) [
      | None ↦ λ e. counts_none p ys (sym (h.count p) ∙ none_counts p xs e)
      | Some x ↦ λ e.
          let there : 1 ≤ count_by (is_lease x) ys = omega (arith, h.count (is_lease x), found_counts p (is_lease x) xs x e (is_itself x)) in
          found_only p (is_lease x) x (λ y k. lease_is x y k) (found_passes p xs x e) ys few_too there
    ] refl

-- a lease that a tree has is one of the book's
pub there_same : (p : Lease → Bool) (xs ys : List Lease) (x : Lease) → AreSame xs ys → find p ys ≡ Some x → 1 ≤ count_by (is_lease x) xs
there_same p xs ys x h e = omega (arith, h.count (is_lease x), found_counts p (is_lease x) ys x e (is_itself x))

count_middle : (p : Lease → Bool) (xs : List Lease) (x : Lease) (ys : List Lease) → count_by p (xs ++ x ∷ ys) ≡ count_by p xs + (one_if (p x) + count_by p ys)
count_middle p xs x ys = sum_by-append (λ y. cond (p y) 1 0) xs (x ∷ ys) ∙ ap (λ n. count_by p xs + n) (sum_by-cons (λ y. cond (p y) 1 0) x ys)

count_both : (p : Lease → Bool) (xs ys : List Lease) → count_by p (xs ++ ys) ≡ count_by p xs + count_by p ys
count_both p xs ys = sum_by-append (λ y. cond (p y) 1 0) xs ys

added_same : (xs old new : List Lease) (x : Lease) → AreSame xs old → IsAdded old new x → AreSame (xs ++ x ∷ []) new
added_same xs old new x h a = record {
  count = λ p. omega (arith, count_push p xs x, h.count p, ap (λ ys. count_by p ys) a.old_is, ap (λ ys. count_by p ys) a.new_is, count_both p a.before a.after, count_middle p a.before x a.after);
}

taken_same : (xs old new : List Lease) (x : Lease) → IsSinglyLeased xs → lease_on xs x.task ≡ Some x → AreSame xs old → IsTaken old new x → AreSame (without_task xs x.task) new
taken_same xs old new x single e h a = record {
  count = λ p.
      let one : count_by p (filter (on x.task) xs) ≡ one_if (p x) = ap (λ ys. count_by p ys) (filter_only (on x.task) xs x (single.most x.task) e) ∙ count_cons p x [] ∙ omega arith in
      omega (arith, one, count_parts (on x.task) p xs, h.count p, ap (λ ys. count_by p ys) a.old_is, ap (λ ys. count_by p ys) a.new_is, count_both p a.before a.after, count_middle p a.before x a.after);
}

-- ---- trees

pub index_none : (by : Order) → IsIndex by [] 0 (no_leases by)
index_none by = record { order = refl; same = record { count = λ p. refl }; room = omega arith }

pub index_roomier : (by : Order) (xs : List Lease) (n m : ℕ) (old new : OrderedLeases) → IsIndex by xs n old → new.order ≡ old.order → new.leases ≡ old.leases → m ≤ new.spare → IsIndex by xs m new
index_roomier by xs n m old new h order leases room = record { order = order ∙ h.order; same = subst (AreSame xs) (sym leases) h.same; room = room }

pub index_added : (by : Order) (xs : List Lease) (n m : ℕ) (x : Lease) (old new : OrderedLeases) → IsIndex by xs n old → new.order ≡ old.order → IsAdded old.leases new.leases x → new.spare + 1 ≡ old.spare → m + 1 ≡ n → IsIndex by (xs ++ x ∷ []) m new
index_added by xs n m x old new h order added spare less = record { order = order ∙ h.order; same = added_same xs old.leases new.leases x h.same added; room = omega (arith, spare, less, h.room) }

-- what stands at a lease's key is on its task
at_key : (by : Order) (x y : Lease) → has_key by (key_of by x) y ≡ true → on x.task y ≡ true
at_key by x y k = (and_parts (eqb (group_of by y) (group_of by x)) (same_task y.task x.task) k).1

-- where no lease is held on the task, none stands at the key
pub free_same : (by : Order) (xs : List Lease) (n : ℕ) (x : Lease) (tree : OrderedLeases) → IsIndex by xs n tree → lease_on xs x.task ≡ None → find (has_key tree.order (key_of tree.order x)) tree.leases ≡ None
free_same by xs n x tree h none =
    let wide = count_wider (on x.task) (has_key tree.order (key_of tree.order x)) (λ y k. at_key tree.order x y k) tree.leases in
    counts_none (has_key tree.order (key_of tree.order x)) tree.leases (omega (arith, wide, h.same.count (on x.task), none_counts (on x.task) xs none))

-- the lease is the one that stands at its key
found_at_key : (by : Order) (xs : List Lease) (n : ℕ) (x : Lease) (tree : OrderedLeases) → IsIndex by xs n tree → IsSinglyLeased xs → lease_on xs x.task ≡ Some x → find (has_key tree.order (key_of by x)) tree.leases ≡ Some x
found_at_key by xs n x tree h single e =
    let p : Lease → Bool = has_key by (key_of by x) in
    let wide : count_by p tree.leases ≤ count_by (on x.task) tree.leases = count_wider (on x.task) p (λ y k. at_key by x y k) tree.leases in
    let few : count_by p tree.leases ≤ 1 = omega (arith, wide, h.same.count (on x.task), single.most x.task) in
    let there : 1 ≤ count_by (is_lease x) tree.leases = omega (arith, h.same.count (is_lease x), found_counts (on x.task) (is_lease x) xs x e (is_itself x)) in
    let itself : p x ≡ true = grind (arith, nat_tests) in
    ap (λ b. find (has_key b (key_of by x)) tree.leases) h.order ∙ found_only p (is_lease x) x (λ y k. lease_is x y k) itself tree.leases few there

pub index_taken : (by : Order) (xs : List Lease) (n : ℕ) (x : Lease) (old new : OrderedLeases) (taken : Option Lease) → IsIndex by xs n old → IsSinglyLeased xs → lease_on xs x.task ≡ Some x → taken ≡ find (has_key old.order (key_of by x)) old.leases → new.order ≡ old.order
    → IfSome taken (λ y. IsTaken old.leases new.leases y) → new.spare ≡ old.spare + (cond (is_some taken) 1 0) → IsIndex by (without_task xs x.task) (n + 1) new
index_taken by xs n x old new taken h single e is order less spare =
    let some : taken ≡ Some x = is ∙ found_at_key by xs n x old h single e in
    let one : IsTaken old.leases new.leases x = rw some at less in
    let more : new.spare ≡ old.spare + 1 = spare ∙ ap (λ (o : Option Lease). old.spare + (cond (is_some o) 1 0)) some in
    record { order = order ∙ h.order; same = taken_same xs old.leases new.leases x single e h.same one; room = omega (arith, more, h.room) }

-- ---- what is read from a tree

-- whether the lease is on the task, by its key
key_on_task : (x : Lease) (task : Task) → has_key order.Judging (record { group = task.judging; task = task }) x ≡ on task x
key_on_task x task =
    elim (same_task x.task task) as (λ t. same_task x.task task ≡ t → (eqb x.task.judging task.judging && t) ≡ t) [
      | true ↦ λ e. let first = (and_parts (eqb x.task.judging task.judging) (eqb x.task.test task.test) e).0 in rw first refl
      | false ↦ λ e. grind arith
    ] refl

pub found_on_task : (xs : List Lease) (n : ℕ) (task : Task) (tree : OrderedLeases) → IsIndex order.Judging xs n tree → IsSinglyLeased xs → find (has_key tree.order (record { group = task.judging; task = task })) tree.leases ≡ lease_on xs task
found_on_task xs n task tree h single =
    ap (λ b. find (has_key b (record { group = task.judging; task = task })) tree.leases) h.order
    ∙ find_agree (has_key order.Judging (record { group = task.judging; task = task })) (on task) (λ x. key_on_task x task) tree.leases
    ∙ find_same (on task) xs tree.leases h.same (single.most task) where
      find_agree : (p q : Lease → Bool) → ((x : Lease) → p x ≡ q x) → (xs : List Lease) → find p xs ≡ find q xs
      find_agree p q same [] = refl
      find_agree p q same (x ∷ xs) = rw (same x) (ap (λ o. cond (q x) (Some x) o) (find_agree p q same xs))

pub held_of : (xs : List Lease) (n host : ℕ) (tree : OrderedLeases) → IsIndex order.Host xs n tree → count_by (has_group tree.order host) tree.leases ≡ held_count xs host
held_of xs n host tree h = rw h.order (sym (h.same.count (holds host)))

-- what a tree by hosts or by judgings finds of a host or a judging ends one of its leases, and where it finds nothing there are none
pub group_ends_one : (p : Lease → Bool) (by : Order) (xs : List Lease) (n group : ℕ) (tree : OrderedLeases) (x : Lease) → ((y : Lease) → has_group by group y ≡ p y) → IsIndex by xs n tree → IsSinglyLeased xs → find (has_group tree.order group) tree.leases ≡ Some x → EndsOne p xs x.task
group_ends_one p by xs n group tree x same h single e =
    let there = there_same (has_group tree.order group) xs tree.leases x h.same e in
    let passes : has_group by group x ≡ true = subst (λ b. has_group b group x ≡ true) h.order (found_passes (has_group tree.order group) tree.leases x e) in
    ends_one p xs x single (held_on xs x single there) (sym (same x) ∙ passes)

pub group_none : (p : Lease → Bool) (by : Order) (xs : List Lease) (n group : ℕ) (tree : OrderedLeases) → ((y : Lease) → has_group by group y ≡ p y) → IsIndex by xs n tree → find (has_group tree.order group) tree.leases ≡ None → count_by p xs ≡ 0
group_none p by xs n group tree same h e =
    let none : count_by (has_group by group) tree.leases ≡ 0 = subst (λ b. count_by (has_group b group) tree.leases ≡ 0) h.order (none_counts (has_group tree.order group) tree.leases e) in
    let wide = count_wider (has_group by group) p (λ y k. same y ∙ k) tree.leases in
    omega (arith, none, wide, h.same.count p)
