-- Leases of which at most one is held on a task.
use Rattle.std.proofs.Common.{ℕ, ◌≡◌, ◌+◌, ◌≤◌, List, [], ◌∷◌, ◌++◌, Option, Some, None, Bool, true, false, not, refl, ap, ◌∙◌, subst, arith, length, filter, count_by, is_some, eqb, ◌&&◌}
use Rattle.std.proofs.lemmas.Bool.{and_parts, and_from, eqb-true, eq-eqb}
use Rattle.farm_kinds.specs.declared.outcomes.Task.{Task}
use Rattle.farm_model.specs.declared.records.Lease.{Lease}
use Rattle.farm_model.specs.Leases.{same_task, lease_on, without_task}
use Rattle.lease_book.specs.Book.{IsSinglyLeased}
use Rattle.lease_book.specs.Changes.{EndsOne}
use Rattle.lease_book.proofs.Counts.{one_if, count_cons, count_push, count_parts, length_kept, found_once, filter_idle, filters_swap, counts_swap, found_only, filter_only}

-- whether the lease is on the task
abbrev pub on : Task → Lease → Bool
on task lease = same_task lease.task task

-- whether it is this lease
abbrev pub is_lease : Lease → Lease → Bool
is_lease a b = same_task b.task a.task && (eqb b.host a.host && eqb b.until a.until)

pub task_is : (a b : Task) → same_task a b ≡ true → a ≡ b
task_is a b h =
    let s = and_parts (eqb a.judging b.judging) (eqb a.test b.test) h in
    let with : ℕ → ℕ → Task = λ (j k : ℕ). record { judging = j; test = k } in
    ap (λ (j : ℕ). with j a.test) (eqb-true a.judging b.judging s.0) ∙ ap (λ (k : ℕ). with b.judging k) (eqb-true a.test b.test s.1)

pub same_self : (a : Task) → same_task a a ≡ true
same_self a = and_from (eqb a.judging a.judging) (eqb a.test a.test) (eq-eqb a.judging a.judging refl) (eq-eqb a.test a.test refl)

pub lease_is : (a b : Lease) → is_lease a b ≡ true → b ≡ a
lease_is a b h =
    let s = and_parts (same_task b.task a.task) (eqb b.host a.host && eqb b.until a.until) h in
    let t = and_parts (eqb b.host a.host) (eqb b.until a.until) s.1 in
    let with : ℕ → Task → ℕ → Lease = λ (host : ℕ) (task : Task) (until : ℕ). record { host = host; task = task; until = until } in
    ap (λ (host : ℕ). with host b.task b.until) (eqb-true b.host a.host t.0) ∙ ap (λ (task : Task). with a.host task b.until) (task_is b.task a.task s.0) ∙ ap (λ (until : ℕ). with a.host a.task until) (eqb-true b.until a.until t.1)

pub is_itself : (a : Lease) → is_lease a a ≡ true
is_itself a = and_from (same_task a.task a.task) (eqb a.host a.host && eqb a.until a.until) (same_self a.task) (and_from (eqb a.host a.host) (eqb a.until a.until) (eq-eqb a.host a.host refl) (eq-eqb a.until a.until refl))

pub none_held : IsSinglyLeased []
none_held = record { most = λ task. omega arith }

pub some_of : (p : Lease → Bool) (xs : List Lease) → IsSinglyLeased xs → IsSinglyLeased (filter p xs)
some_of p xs h = record { most = λ task. omega (arith, count_parts p (on task) xs, h.most task) }

one_more : (xs : List Lease) (lease : Lease) → IsSinglyLeased xs → count_by (on lease.task) xs ≡ 0 → IsSinglyLeased (xs ++ lease ∷ [])
one_more xs lease h none = record {
  most = λ task.
      let e = count_push (on task) xs lease in
      let fits : (t : Bool) → same_task lease.task task ≡ t → count_by (on task) xs + one_if t ≤ 1
      = λ t. elim t as (λ t. same_task lease.task task ≡ t → count_by (on task) xs + one_if t ≤ 1) [
        | true ↦ λ s. let z : count_by (on task) xs ≡ 0 = subst (λ k. count_by (on k) xs ≡ 0) (task_is lease.task task s) none in omega (arith, z)
        | false ↦ λ s. omega (arith, h.most task)
      ] in
      omega (arith, e, fits (same_task lease.task task) refl);
}

-- no lease is held on the task
pub unheld : (xs : List Lease) (task : Task) → IsSinglyLeased xs → lease_on xs task ≡ None → count_by (on task) xs ≡ 0
unheld xs task h e = found_once (on task) xs (h.most task) ∙ ap (λ (o : Option Lease). one_if (is_some o)) e

pub granted : (xs : List Lease) (lease : Lease) → IsSinglyLeased xs → lease_on xs lease.task ≡ None → IsSinglyLeased (xs ++ lease ∷ [])
granted xs lease h e = one_more xs lease h (unheld xs lease.task h e)

pub one_less : (xs : List Lease) (task : Task) → IsSinglyLeased xs → length xs ≡ length (without_task xs task) + one_if (is_some (lease_on xs task))
one_less xs task h = omega (arith, length_kept (on task) xs, found_once (on task) xs (h.most task))

-- a lease of the list is the one on its task
pub held_on : (xs : List Lease) (lease : Lease) → IsSinglyLeased xs → 1 ≤ count_by (is_lease lease) xs → lease_on xs lease.task ≡ Some lease
held_on xs lease h some = found_only (on lease.task) (is_lease lease) lease (λ y e. lease_is lease y e) (same_self lease.task) xs (h.most lease.task) some

-- a lease that passes ends: of those that do there is one less, and the others are the same
pub ends_one : (p : Lease → Bool) (xs : List Lease) (lease : Lease) → IsSinglyLeased xs → lease_on xs lease.task ≡ Some lease → p lease ≡ true → EndsOne p xs lease.task
ends_one p xs lease h e t =
    let only : filter (on lease.task) xs ≡ lease ∷ [] = filter_only (on lease.task) xs lease (h.most lease.task) e in
    let passes : one_if (p lease) ≡ 1 = ap one_if t in
    let once : count_by p (filter (on lease.task) xs) ≡ 1 = ap (λ ys. count_by p ys) only ∙ count_cons p lease [] ∙ omega (arith, passes) in
    let none : count_by (on lease.task) (filter (λ x. not (p x)) xs) ≡ 0 = omega (arith, once, count_parts p (on lease.task) xs, counts_swap p (on lease.task) xs, h.most lease.task) in
    record {
      held = ap (λ (o : Option Lease). is_some o) e;
      count = omega (arith, count_parts (on lease.task) p xs, once);
      left = filters_swap (λ x. not (p x)) (λ x. not (on lease.task x)) xs ∙ filter_idle (on lease.task) (filter (λ x. not (p x)) xs) none;
    }
