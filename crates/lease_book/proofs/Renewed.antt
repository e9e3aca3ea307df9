-- Leases that get another end where they stand.
use Rattle.std.proofs.Common.{ℕ, ◌≡◌, ◌+◌, List, [], ◌∷◌, Some, None, Bool, true, false, not, cond, refl, sym, ap, ◌∙◌, arith, length, filter, count_by, map, ◌&&◌, ◌||◌}
use Rattle.std.specs.Prelude.{◌==◌}
use Rattle.std.proofs.lemmas.Bool.{eqb-true}
use Rattle.farm_kinds.specs.declared.outcomes.Task.{Task}
use Rattle.farm_model.specs.declared.records.Lease.{Lease}
use Rattle.farm_model.specs.Leases.{lease_on, with_lease, without_task, renew_if, renewed}
use Rattle.lease_tree.specs.declared.keys.Order.{Order}
use Rattle.lease_tree.specs.TreeValue.{OrderedLeases}
use Rattle.lease_book.specs.Book.{IsSinglyLeased}
use Rattle.lease_book.specs.BookLayout.{AreSame, IsIndex}
use Rattle.lease_book.specs.Changes.{EndsOne}
use Rattle.lease_book.proofs.Counts.{one_if, count_cons, count_push, count_wider, none_left, none_counts, filters_swap, filter_only}
use Rattle.lease_book.proofs.Singly.{on}
use Rattle.lease_book.proofs.Changed.{task_of}

abbrev pub with_end : ℕ → Lease → Lease
with_end until lease = record lease { until = until }

-- whether the lease passes the test and has another end
abbrev pub is_other : (Lease → Bool) → ℕ → Lease → Bool
is_other test until lease = test lease && not (lease.until == until)

pub count_map : (p : Lease → Bool) (f : Lease → Lease) (xs : List Lease) → count_by p (map f xs) ≡ count_by (λ x. p (f x)) xs
count_map p f [] = refl
count_map p f (x ∷ xs) = count_cons p (f x) (map f xs) ∙ ap (λ n. one_if (p (f x)) + n) (count_map p f xs) ∙ sym (count_cons (λ y. p (f y)) x xs)

pub length_map : (f : Lease → Lease) (xs : List Lease) → length (map f xs) ≡ length xs
length_map f [] = refl
length_map f (x ∷ xs) = omega (arith, length_map f xs)

-- what passes either of two tests is no more than what passes one and what passes the other
pub count_either : (p q r : Lease → Bool) → ((x : Lease) → p x ≡ true → (q x || r x) ≡ true) → (xs : List Lease) → count_by q xs ≡ 0 → count_by r xs ≡ 0 → count_by p xs ≡ 0
count_either p q r h [] a b = refl
count_either p q r h (x ∷ xs) a b =
    let cq = count_cons q x xs in
    let cr = count_cons r x xs in
    let here : (t u v : Bool) → p x ≡ t → q x ≡ u → r x ≡ v → one_if u ≡ 0 → one_if v ≡ 0 → one_if t ≡ 0
    = λ t u v. elim t as (λ t. p x ≡ t → q x ≡ u → r x ≡ v → one_if u ≡ 0 → one_if v ≡ 0 → one_if t ≡ 0) [
      | false ↦ λ d e f m n. refl
      | true ↦ λ d. elim u as (λ u. q x ≡ u → r x ≡ v → one_if u ≡ 0 → one_if v ≡ 0 → one_if true ≡ 0) [
        | true ↦ λ e f (m : 1 ≡ 0) n. absurd (omega arith)
        | false ↦ λ e. elim v as (λ v. r x ≡ v → one_if false ≡ 0 → one_if v ≡ 0 → one_if true ≡ 0) [
          | true ↦ λ f m (n : 1 ≡ 0). absurd (omega arith)
          | false ↦ λ f m n. let k : (q x || r x) ≡ true = h x d in let l : (q x || r x) ≡ false = rw (e, f) refl in let c : true ≡ false = sym k ∙ l in cc
        ]
      ]
    ] in
    let one = here (p x) (q x) (r x) refl refl refl (omega (arith, cq, a)) (omega (arith, cr, b)) in
    omega (arith, count_cons p x xs, one, count_either p q r h xs (omega (arith, cq, a)) (omega (arith, cr, b)))

-- where no lease that passes has another end, nothing changes
end_idle : (until : ℕ) (x : Lease) → x.until ≡ until → with_end until x ≡ x
end_idle until x e = ap (λ (n : ℕ). with_end n x) (sym e)

pub renewed_idle : (p : Lease → Bool) (until : ℕ) (xs : List Lease) → count_by (is_other p until) xs ≡ 0 → map (renew_if p until) xs ≡ xs
renewed_idle p until [] h = refl
renewed_idle p until (x ∷ xs) h =
    let c = count_cons (is_other p until) x xs in
    let none : one_if (p x && not (x.until == until)) ≡ 0 = omega (arith, c, h) in
    let head : (t u : Bool) → p x ≡ t → (x.until == until) ≡ u → one_if (t && not u) ≡ 0 → cond t (with_end until x) x ≡ x
    = λ t u. elim t as (λ t. p x ≡ t → (x.until == until) ≡ u → one_if (t && not u) ≡ 0 → cond t (with_end until x) x ≡ x) [
      | false ↦ λ d e n. refl
      | true ↦ λ d. elim u as (λ u. (x.until == until) ≡ u → one_if (true && not u) ≡ 0 → with_end until x ≡ x) [
        | true ↦ λ e n. end_idle until x (eqb-true x.until until e)
        | false ↦ λ e (n : 1 ≡ 0). absurd (omega arith)
      ]
    ] in
    ap (λ (y : Lease). y ∷ map (renew_if p until) xs) (head (p x) (x.until == until) refl refl none) ∙ ap (λ ys. x ∷ ys) (renewed_idle p until xs (omega (arith, c, h)))

-- where no lease is held on the task, nothing is renewed
pub none_renewed : (xs : List Lease) (task : Task) (until : ℕ) → lease_on xs task ≡ None → renewed xs task until ≡ xs
none_renewed xs task until e =
    let wide = count_wider (on task) (is_other (on task) until) (λ x t. first_of (on task x) (not (x.until == until)) t) xs in
    renewed_idle (on task) until xs (omega (arith, wide, none_counts (on task) xs e)) where
      first_of : (a b : Bool) → (a && b) ≡ true → a ≡ true
      first_of true b t = refl
      first_of false b t = t

-- those that pass, with their new end, and those that do not are all
count_renewed : (p q : Lease → Bool) (until : ℕ) (xs : List Lease) → count_by p (map (renew_if q until) xs) ≡ count_by p (filter (λ x. not (q x)) xs) + count_by p (map (with_end until) (filter q xs))
count_renewed p q until [] = refl
count_renewed p q until (x ∷ xs) =
    let ih = count_renewed p q until xs in
    let left = filter (λ y. not (q y)) xs in
    let new = map (with_end until) (filter q xs) in
    let step : (t : Bool) → q x ≡ t → one_if (p (cond t (with_end until x) x)) + count_by p (map (renew_if q until) xs) ≡ count_by p (cond (not t) (x ∷ left) left) + count_by p (map (with_end until) (cond t (x ∷ filter q xs) (filter q xs)))
    = λ t. elim t as (λ t. q x ≡ t → one_if (p (cond t (with_end until x) x)) + count_by p (map (renew_if q until) xs) ≡ count_by p (cond (not t) (x ∷ left) left) + count_by p (map (with_end until) (cond t (x ∷ filter q xs) (filter q xs)))) [
      | true ↦ λ e. omega (arith, ih, count_cons p (with_end until x) new)
      | false ↦ λ e. omega (arith, ih, count_cons p x left)
    ] in
    count_cons p (renew_if q until x) (map (renew_if q until) xs) ∙ step (q x) refl

-- a lease that is renewed where it stands: as though it ended and were granted again, but for the order
pub renewed_same : (xs : List Lease) (task : Task) (lease : Lease) (until : ℕ) → IsSinglyLeased xs → lease_on xs task ≡ Some lease → AreSame (renewed xs task until) (with_lease (without_task xs task) lease.host task until)
renewed_same xs task lease until single e = record {
  count = λ p.
      let with : Task → Lease = λ (t : Task). record { host = lease.host; task = t; until = until } in
      let one : count_by p (map (with_end until) (filter (on task) xs)) ≡ one_if (p (with_end until lease)) = ap (λ ys. count_by p (map (with_end until) ys)) (filter_only (on task) xs lease (single.most task) e) ∙ count_cons p (with_end until lease) [] ∙ omega arith in
      let same : one_if (p (with_end until lease)) ≡ one_if (p (with task)) = ap (λ (t : Task). one_if (p (with t))) (task_of xs task lease e) in
      omega (arith, count_renewed p (on task) until xs, one, same, count_push p (without_task xs task) (with task));
}

pub single_same : (xs ys : List Lease) → AreSame xs ys → IsSinglyLeased ys → IsSinglyLeased xs
single_same xs ys h single = record { most = λ task. omega (arith, h.count (on task), single.most task) }

pub index_same : (by : Order) (xs ys : List Lease) (n : ℕ) (tree : OrderedLeases) → AreSame xs ys → IsIndex by ys n tree → IsIndex by xs n tree
index_same by xs ys n tree h i = record { order = i.order; same = record { count = λ p. h.count p ∙ i.same.count p }; room = i.room }

-- ---- leases that pass a test which does not ask for their ends

-- where one that passes is the lease on the task, no other lease is on it
pub none_foreign : (p : Lease → Bool) (xs : List Lease) (task : Task) → EndsOne p xs task → count_by (on task) (filter (λ x. not (p x)) xs) ≡ 0
none_foreign p xs task e =
    sym (ap (λ ys. count_by (on task) ys) (sym (filters_swap (λ x. not (p x)) (λ x. not (on task x)) xs) ∙ e.left)) ∙ none_left (on task) (filter (λ x. not (p x)) xs)

-- renewing one of them first changes nothing
pub renewed_twice : (p q : Lease → Bool) (until : ℕ) → ((x : Lease) → p (with_end until x) ≡ p x) → (xs : List Lease) → count_by q (filter (λ x. not (p x)) xs) ≡ 0 → map (renew_if p until) (map (renew_if q until) xs) ≡ map (renew_if p until) xs
renewed_twice p q until keeps [] h = refl
renewed_twice p q until keeps (x ∷ xs) h =
    let left = filter (λ y. not (p y)) xs in
    let parts : (t : Bool) → p x ≡ t → count_by q (cond (not t) (x ∷ left) left) ≡ 0 → (renew_if p until (renew_if q until x) ≡ renew_if p until x) × (count_by q left ≡ 0)
    = λ t. elim t as (λ t. p x ≡ t → count_by q (cond (not t) (x ∷ left) left) ≡ 0 → (renew_if p until (renew_if q until x) ≡ renew_if p until x) × (count_by q left ≡ 0)) [
      | true ↦ λ e n. (passing (q x) e, n)
      | false ↦ λ e n. (let c = count_cons q x left in let no_q : one_if (q x) ≡ 0 = omega (arith, c, n) in failing (q x) refl no_q, let c = count_cons q x left in omega (arith, c, n))
    ] in
    let both = parts (p x) refl h in
    ap (λ (y : Lease). y ∷ map (renew_if p until) (map (renew_if q until) xs)) both.0 ∙ ap (λ ys. renew_if p until x ∷ ys) (renewed_twice p q until keeps xs both.1) where
      passing : (u : Bool) → p x ≡ true → renew_if p until (cond u (with_end until x) x) ≡ renew_if p until x
      passing true e = let k : p (with_end until x) ≡ true = keeps x ∙ e in rw (k, e) refl
      passing false e = refl

      failing : (u : Bool) → q x ≡ u → one_if u ≡ 0 → renew_if p until (renew_if q until x) ≡ renew_if p until x
      failing true e n = absurd (omega (arith, n))
      failing false e n = rw e refl
