-- The lease that is due first.
use Rattle.std.proofs.Common.{ℕ, ◌≡◌, ◌+◌, ◌≤◌, ◌<◌, List, [], ◌∷◌, Option, Some, None, Bool, true, false, not, cond, refl, sym, ap, ◌∙◌, subst, arith, length, filter, count_by, eqb, fold}
use Rattle.std.specs.Prelude.{IfSome, slice_get, ◌&&◌, ◌||◌, nat_lt}
use Rattle.std.specs.List.{reduce}
use Rattle.std.proofs.lemmas.Bool.Decides.{nat_tests}
use Rattle.std.proofs.lemmas.List.Sums.{length-filter}
use Rattle.farm_model.specs.declared.records.Lease.{Lease}
use Rattle.farm_model.specs.Leases.{has_ended, ended_at, is_task_before, earlier_of, first_due}
use Rattle.lease_tree.specs.declared.keys.Order.TheVariants as order
use Rattle.lease_tree.specs.Keys.{key_of, is_before, NoneBefore}
use Rattle.lease_tree.proofs.KeyOrder.{not_after, neither_task}
use Rattle.lease_tree.specs.declared.keys.Order.{Order}
use Rattle.lease_tree.specs.TreeValue.{OrderedLeases}
use Rattle.lease_book.specs.Book.{IsSinglyLeased, NoneEnds}
use Rattle.lease_book.specs.BookLayout.{IsIndex}
use Rattle.lease_book.proofs.Counts.{one_if, count_cons, count_parts, count_wider, filter_idle}
use Rattle.lease_book.proofs.Singly.{on, is_lease, lease_is, is_itself, same_self}

-- it is another lease, and does not come after this one
abbrev is_other : Lease → Lease → Bool
is_other x y = not (is_lease x y || is_before order.End x y)

earlier_is : (a b : Lease) → earlier_of a b ≡ cond (is_before order.End b a) b a
earlier_is a b =
    let same : eqb a.until b.until ≡ eqb b.until a.until = grind (arith, nat_tests) in
    ap (λ t. cond (nat_lt b.until a.until || (t && is_task_before b.task a.task)) b a) same

not_before_itself : (x : Lease) → is_before order.End x x ≡ false
not_before_itself x = grind (arith, nat_tests)

-- a lease that is not another one stays before it
stays : (x y : Lease) → is_other x y ≡ false → earlier_of x y ≡ x
stays x y e =
    earlier_is x y ∙ (elim (is_lease x y) as (λ t. is_lease x y ≡ t → not (t || is_before order.End x y) ≡ false → cond (is_before order.End y x) y x ≡ x) [
      | true ↦ λ k f. let is : y ≡ x = lease_is x y k in ap (λ (z : Lease). cond (is_before order.End z x) z x) is ∙ rw (not_before_itself x) refl
      | false ↦ λ k f. elim (is_before order.End x y) as (λ b. is_before order.End x y ≡ b → not (false || b) ≡ false → cond (is_before order.End y x) y x ≡ x) [
        | true ↦ λ b g. rw (not_after (key_of order.End x) (key_of order.End y) b) refl
        | false ↦ λ b g. cc
      ] refl f
    ] refl e)

-- it takes the place of another
comes : (x y : Lease) → is_lease x y ≡ false → is_other x y ≡ false → earlier_of y x ≡ x
comes x y k e =
    earlier_is y x ∙ (elim (is_before order.End x y) as (λ b. is_before order.End x y ≡ b → not (is_lease x y || b) ≡ false → cond b x y ≡ x) [
      | true ↦ λ b g. refl
      | false ↦ λ b g. let g' : not (false || false) ≡ false = rw k at g in cc
    ] refl e)

passes_one : (p : Lease → Bool) (a b : Lease) → p a ≡ false → p b ≡ false → p (earlier_of a b) ≡ false
passes_one p a b h k =
    elim (nat_lt b.until a.until || (eqb a.until b.until && is_task_before b.task a.task)) as (λ t. p (cond t b a) ≡ false) [ true ↦ k | false ↦ h ]

-- of leases of which none is another, the earliest is this one, if it is there
fold_earliest : (x a : Lease) (ys : List Lease) → count_by (is_other x) (a ∷ ys) ≡ 0 → 1 ≤ count_by (is_lease x) (a ∷ ys) → fold earlier_of a ys ≡ x
fold_earliest x a [] none some =
    elim (is_lease x a) as (λ t. is_lease x a ≡ t → one_if t + 0 ≡ count_by (is_lease x) (a ∷ []) → a ≡ x) [
      | true ↦ λ k c. lease_is x a k
      | false ↦ λ k (c : 0 + 0 ≡ count_by (is_lease x) (a ∷ [])). absurd (omega (arith, c, some))
    ] refl (sym (count_cons (is_lease x) a []))
fold_earliest x a (y ∷ ys) none some =
    let first = count_cons (is_other x) a (y ∷ ys) in
    let second = count_cons (is_other x) y ys in
    let a_not : is_other x a ≡ false = zero_not (is_other x a) (count_by (is_other x) (y ∷ ys)) (omega (arith, first, none)) in
    let y_not : is_other x y ≡ false = zero_not (is_other x y) (count_by (is_other x) ys) (omega (arith, first, second, none)) in
    let rest : count_by (is_other x) ys ≡ 0 = omega (arith, first, second, none) in
    let c_not : one_if (is_other x (earlier_of a y)) ≡ 0 = ap one_if (passes_one (is_other x) a y a_not y_not) in
    let others : count_by (is_other x) (earlier_of a y ∷ ys) ≡ 0 = omega (arith, count_cons (is_other x) (earlier_of a y) ys, c_not, rest) in
    let here : earlier_of a y ≡ x → 1 ≤ count_by (is_lease x) (earlier_of a y ∷ ys)
    = λ is. let one : one_if (is_lease x (earlier_of a y)) ≡ 1 = ap (λ z. one_if (is_lease x z)) is ∙ ap one_if (is_itself x) in omega (arith, one, count_cons (is_lease x) (earlier_of a y) ys) in
    let there : 1 ≤ count_by (is_lease x) (earlier_of a y ∷ ys)
    = elim (is_lease x a) as (λ t. is_lease x a ≡ t → one_if t + count_by (is_lease x) (y ∷ ys) ≡ count_by (is_lease x) (a ∷ y ∷ ys) → 1 ≤ count_by (is_lease x) (earlier_of a y ∷ ys)) [
      | true ↦ λ k c. let is : a ≡ x = lease_is x a k in here (ap (λ z. earlier_of z y) is ∙ stays x y y_not)
      | false ↦ λ k (c : 0 + count_by (is_lease x) (y ∷ ys) ≡ count_by (is_lease x) (a ∷ y ∷ ys)).
          elim (is_lease x y) as (λ t. is_lease x y ≡ t → one_if t + count_by (is_lease x) ys ≡ count_by (is_lease x) (y ∷ ys) → 1 ≤ count_by (is_lease x) (earlier_of a y ∷ ys)) [
            | true ↦ λ l d. let is : y ≡ x = lease_is x y l in here (ap (λ z. earlier_of a z) is ∙ comes x a k a_not)
            | false ↦ λ l (d : 0 + count_by (is_lease x) ys ≡ count_by (is_lease x) (y ∷ ys)). omega (arith, c, d, some, count_cons (is_lease x) (earlier_of a y) ys)
          ] refl (sym (count_cons (is_lease x) y ys))
    ] refl (sym (count_cons (is_lease x) a (y ∷ ys))) in
    fold_earliest x (earlier_of a y) ys others there where
      zero_not : (b : Bool) (n : ℕ) → one_if b + n ≡ 0 → b ≡ false
      zero_not true n e = let f : 1 + n ≡ 0 = e in absurd (omega (arith, f))
      zero_not false n e = refl

reduce_earliest : (x : Lease) (ys : List Lease) → count_by (is_other x) ys ≡ 0 → 1 ≤ count_by (is_lease x) ys → reduce earlier_of ys ≡ Some x
reduce_earliest x [] none some = let f : 1 ≤ 0 = some in absurd (omega (arith, f))
reduce_earliest x (y ∷ ys) none some = ap Some (fold_earliest x y ys none some)

-- two counts that are together at most two others
count_weighed : (a b c d : Lease → Bool) → ((y : Lease) → one_if (a y) + one_if (b y) ≤ one_if (c y) + one_if (d y)) → (xs : List Lease) → count_by a xs + count_by b xs ≤ count_by c xs + count_by d xs
count_weighed a b c d h [] = omega arith
count_weighed a b c d h (x ∷ xs) = omega (arith, h x, count_weighed a b c d h xs, count_cons a x xs, count_cons b x xs, count_cons c x xs, count_cons d x xs)

-- a lease before which none comes is the only one on its task, so each is it or comes after it
no_other : (xs : List Lease) (x : Lease) → IsSinglyLeased xs → 1 ≤ count_by (is_lease x) xs → count_by (λ y. is_before order.End y x) xs ≡ 0 → count_by (is_other x) xs ≡ 0
no_other xs x single some none =
    let weighed = count_weighed (is_other x) (is_lease x) (λ y. is_before order.End y x) (on x.task) (λ y. weigh y) xs in
    omega (arith, weighed, some, none, single.most x.task) where
      weigh : (y : Lease) → one_if (is_other x y) + one_if (is_lease x y) ≤ one_if (is_before order.End y x) + one_if (on x.task y)
      weigh y =
          elim (is_lease x y) as (λ t. is_lease x y ≡ t → one_if (not (t || is_before order.End x y)) + one_if t ≤ one_if (is_before order.End y x) + one_if (on x.task y)) [
            | true ↦ λ k. let is : y ≡ x = lease_is x y k in let one : one_if (on x.task y) ≡ 1 = ap (λ (z : Lease). one_if (on x.task z)) is ∙ ap one_if (same_self x.task) in omega (arith, one)
            | false ↦ λ k. elim (is_before order.End x y) as (λ b. is_before order.End x y ≡ b → one_if (not (false || b)) + 0 ≤ one_if (is_before order.End y x) + one_if (on x.task y)) [
              | true ↦ λ b. omega arith
              | false ↦ λ b. elim (is_before order.End y x) as (λ d. is_before order.End y x ≡ d → 1 + 0 ≤ one_if d + one_if (on x.task y)) [
                | true ↦ λ d. omega arith
                | false ↦ λ d. let one : one_if (on x.task y) ≡ 1 = ap one_if (neither_task (key_of order.End y) (key_of order.End x) d b) in omega (arith, one)
              ] refl
            ] refl
          ] refl

-- a filter that lets all of these pass
count_kept : (p q : Lease → Bool) → ((y : Lease) → q y ≡ true → p y ≡ true) → (xs : List Lease) → count_by q (filter p xs) ≡ count_by q xs
count_kept p q h [] = refl
count_kept p q h (y ∷ ys) =
    elim (p y) as (λ t. p y ≡ t → count_by q (cond t (y ∷ filter p ys) (filter p ys)) ≡ count_by q (y ∷ ys)) [
      | true ↦ λ e. omega (arith, count_cons q y (filter p ys), count_cons q y ys, count_kept p q h ys)
      | false ↦ λ e.
          let none : one_if (q y) ≡ 0 = elim (q y) as (λ t. q y ≡ t → one_if t ≡ 0) [ true ↦ λ k. let f = h y k in cc | false ↦ λ k. refl ] refl in
          omega (arith, none, count_cons q y ys, count_kept p q h ys)
    ] refl

-- a lease before which none comes is due first, if it has ended
pub due_first : (xs : List Lease) (now : ℕ) (x : Lease) → IsSinglyLeased xs → 1 ≤ count_by (is_lease x) xs → count_by (λ y. is_before order.End y x) xs ≡ 0 → x.until ≤ now → first_due xs now ≡ Some x
due_first xs now x single some none le =
    let parts = count_parts (has_ended now) (is_other x) xs in
    let fewer : count_by (is_other x) (ended_at xs now) ≡ 0 = omega (arith, parts, no_other xs x single some none) in
    let ended : (y : Lease) → is_lease x y ≡ true → has_ended now y ≡ true = λ y k. subst (λ (z : Lease). has_ended now z ≡ true) (sym (lease_is x y k)) (grind (arith, nat_tests, le)) in
    let kept : count_by (is_lease x) (ended_at xs now) ≡ count_by (is_lease x) xs = count_kept (has_ended now) (is_lease x) ended xs in
    reduce_earliest x (ended_at xs now) fewer (omega (arith, kept, some))

-- where none has ended, none is due
pub none_due : (xs : List Lease) (now : ℕ) → count_by (has_ended now) xs ≡ 0 → first_due xs now ≡ None
none_due xs now none = ap (λ ys. reduce earlier_of ys) (no_more (ended_at xs now) (length-filter (has_ended now) xs ∙ none)) where
  no_more : (xs : List Lease) → length xs ≡ 0 → xs ≡ []
  no_more [] e = refl
  no_more (x ∷ xs) e = absurd (omega (arith, e))

pub none_ends : (xs : List Lease) (now : ℕ) → count_by (has_ended now) xs ≡ 0 → NoneEnds xs now
none_ends xs now none = record { count = length-filter (has_ended now) xs ∙ none; left = filter_idle (has_ended now) xs none }

-- where a lease before which none comes has not ended, none has
pub none_ended : (xs : List Lease) (now : ℕ) (x : Lease) → count_by (λ y. is_before order.End y x) xs ≡ 0 → now < x.until → count_by (has_ended now) xs ≡ 0
none_ended xs now x none lt =
    let wide = count_wider (λ y. is_before order.End y x) (has_ended now) (λ y k. let le : y.until ≤ now = grind (arith, nat_tests, k) in grind (arith, nat_tests, le, lt)) xs in
    omega (arith, wide, none)

-- ---- the first lease of a tree by ends

-- it is one of the book's leases, and none comes before it
pub record IsEarliest (xs : List Lease) (x : Lease) : Type 0 where
  pub there : 1 ≤ count_by (is_lease x) xs
  pub none : count_by (λ y. is_before order.End y x) xs ≡ 0

pub earliest : (xs : List Lease) (n : ℕ) (tree : OrderedLeases) (first : Option Lease) (x : Lease) → IsIndex order.End xs n tree → first ≡ slice_get tree.leases 0 → IfSome first (λ y. NoneBefore tree.order tree.leases y) → first ≡ Some x → IsEarliest xs x
earliest xs n tree first x h is none some =
    let here : NoneBefore tree.order tree.leases x = rw some at none in
    let same : count_by (λ y. is_before order.End y x) tree.leases ≡ 0 = rw h.order at here in
    record {
      there = omega (arith, head_counts tree.leases x (sym is ∙ some), h.same.count (is_lease x));
      none = h.same.count (λ y. is_before order.End y x) ∙ same;
    } where
      head_counts : (ys : List Lease) (x : Lease) → slice_get ys 0 ≡ Some x → 1 ≤ count_by (is_lease x) ys
      head_counts [] x e = cc
      head_counts (y ∷ ys) x e =
          let is : y ≡ x = cc in
          let one : one_if (is_lease x y) ≡ 1 = ap (λ (z : Lease). one_if (is_lease x z)) is ∙ ap one_if (is_itself x) in
          omega (arith, one, count_cons (is_lease x) y ys)

pub no_lease : (p : Lease → Bool) (by : Order) (xs : List Lease) (n : ℕ) (tree : OrderedLeases) → IsIndex by xs n tree → slice_get tree.leases 0 ≡ None → count_by p xs ≡ 0
no_lease p by xs n tree h e = h.same.count p ∙ ap (λ ys. count_by p ys) (empty tree.leases e) where
  empty : (ys : List Lease) → slice_get ys 0 ≡ None → ys ≡ []
  empty [] e = refl
  empty (y ∷ ys) e = cc

pub due_has_ended : (now : ℕ) (x : Lease) → x.until ≤ now → has_ended now x ≡ true
due_has_ended now x le = grind (arith, nat_tests, le)
