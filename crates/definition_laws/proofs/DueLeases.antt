-- The lease that is due first.
use Rattle.std.proofs.Common.{ℕ, ◌≡◌, ◌≤◌, ◌<◌, ◌⊎◌, inl, inr, List, [], ◌∷◌, Some, None, refl, sym, ◌∙◌, subst, arith, fold}
use Rattle.std.specs.Prelude.{◌↔◌, All}
use Rattle.std.specs.List.{reduce, Contains}
use Rattle.std.proofs.lemmas.Bool.{cases_cond, cases_lt, le-leb, leb-true}
use Rattle.std.proofs.lemmas.Bool.Decides.{nat_tests}
use Rattle.std.proofs.lemmas.List.Elements.{All-nil, All-cons, All-contains}
use Rattle.farm_model.specs.declared.records.Lease.{Lease}
use Rattle.farm_model.specs.Leases.{has_ended, ended_at, earlier_of, first_due}
use Rattle.package_folder.proofs.Members.{first_in, later_in, first_or_later, none_in, in_filter, from_filter}
use Rattle.definition_laws.specs.TaskOrder.{IsLesserTask}

-- b does not come before a
record Leads (a b : Lease) : Type 0 where
  pub until : a.until ≤ b.until
  pub judging : b.until ≡ a.until → a.task.judging ≤ b.task.judging
  pub test : b.until ≡ a.until → b.task.judging ≡ a.task.judging → a.task.test ≤ b.task.test

leads_itself : (a : Lease) → Leads a a
leads_itself a = record { until = omega arith; judging = λ e. omega arith; test = λ e f. omega arith }

leads_on : (a b c : Lease) → Leads a b → Leads b c → Leads a c
leads_on a b c h k = record {
  until = omega (arith, h.until, k.until);
  judging = λ e. omega (arith, h.until, k.until, h.judging, k.judging);
  test = λ e f. omega (arith, h.until, k.until, h.judging, k.judging, h.test, k.test);
}

-- the earlier of two comes before neither
leads_first : (a b : Lease) → Leads (earlier_of a b) a
leads_first a b = record { until = grind (arith, nat_tests); judging = grind (arith, nat_tests); test = grind (arith, nat_tests) }

leads_second : (a b : Lease) → Leads (earlier_of a b) b
leads_second a b = record { until = grind (arith, nat_tests); judging = grind (arith, nat_tests); test = grind (arith, nat_tests) }

-- the earliest of them all comes before none
leads_first_of : (a : Lease) (xs : List Lease) → Leads (fold earlier_of a xs) a
leads_first_of a [] = leads_itself a
leads_first_of a (x ∷ xs) = leads_on _ (earlier_of a x) a (leads_first_of (earlier_of a x) xs) (leads_first a x)

leads_each : (a : Lease) (xs : List Lease) → All (Leads (fold earlier_of a xs)) xs
leads_each a [] = All-nil (Leads a)
leads_each a (x ∷ xs) =
    let lease = fold earlier_of (earlier_of a x) xs in
    All-cons (Leads lease) x xs (leads_on lease (earlier_of a x) x (leads_first_of (earlier_of a x) xs) (leads_second a x)) (leads_each (earlier_of a x) xs)

leads_all : (lease : Lease) (xs : List Lease) → reduce earlier_of xs ≡ Some lease → All (Leads lease) xs
leads_all lease [] e = absurd (let no' : ⊥ = cc in no')
leads_all lease (x ∷ xs) e =
    let is : fold earlier_of x xs ≡ lease = cc in
    subst (λ (y : Lease). All (Leads y) (x ∷ xs)) is (All-cons (Leads (fold earlier_of x xs)) x xs (leads_first_of x xs) (leads_each x xs))

-- and is one of them
among_two : (a b : Lease) → (earlier_of a b ≡ a) ⊎ (earlier_of a b ≡ b)
among_two a b = elim (cases_cond _ b a (earlier_of a b) refl) [ inl e ↦ inr e | inr e ↦ inl e ]

is_first : (x : Lease) (xs : List Lease) (y : Lease) → x ≡ y → Contains (x ∷ xs) y
is_first x xs y e = subst (λ (z : Lease). Contains (x ∷ xs) z) e (first_in x xs)

among_first : (a x : Lease) (xs : List Lease) → Contains (earlier_of a x ∷ xs) (fold earlier_of (earlier_of a x) xs) → Contains (a ∷ x ∷ xs) (fold earlier_of (earlier_of a x) xs)
among_first a x xs h =
    let z = fold earlier_of (earlier_of a x) xs in
    elim (first_or_later (earlier_of a x) z xs h) [
      | inl e ↦ elim (among_two a x) [
        | inl is ↦ is_first a (x ∷ xs) z (sym is ∙ e)
        | inr is ↦ later_in a z (x ∷ xs) (is_first x xs z (sym is ∙ e))
      ]
      | inr k ↦ later_in a z (x ∷ xs) (later_in x z xs k)
    ]

among : (a : Lease) (xs : List Lease) → Contains (a ∷ xs) (fold earlier_of a xs)
among a [] = first_in a []
among a (x ∷ xs) = among_first a x xs (among (earlier_of a x) xs)

pub due_held : (leases : List Lease) (now : ℕ) (lease : Lease) → first_due leases now ≡ Some lease → Contains (ended_at leases now) lease
due_held leases now lease e = reduced (ended_at leases now) lease e where
  reduced : (xs : List Lease) (lease : Lease) → reduce earlier_of xs ≡ Some lease → Contains xs lease
  reduced [] lease e = absurd (let no' : ⊥ = cc in no')
  reduced (x ∷ xs) lease e = let is : fold earlier_of x xs ≡ lease = cc in subst (λ (y : Lease). Contains (x ∷ xs) y) is (among x xs)

pub held : (leases : List Lease) (now : ℕ) (lease : Lease) → first_due leases now ≡ Some lease → Contains leases lease
held leases now lease e = (from_filter (has_ended now) lease leases (due_held leases now lease e)).0

pub ended : (leases : List Lease) (now : ℕ) (lease : Lease) → first_due leases now ≡ Some lease → lease.until ≤ now
ended leases now lease e = leb-true lease.until now ((from_filter (has_ended now) lease leases (due_held leases now lease e)).1)

leads : (leases : List Lease) (now : ℕ) (lease other : Lease) → first_due leases now ≡ Some lease → Contains leases other → other.until ≤ now → Leads lease other
leads leases now lease other e h le =
    All-contains (Leads lease) (ended_at leases now) other (leads_all lease (ended_at leases now) e) (in_filter (has_ended now) other leases h (le-leb other.until now le))

pub least_end : (leases : List Lease) (now : ℕ) (lease other : Lease) → first_due leases now ≡ Some lease → Contains leases other → lease.until ≤ other.until
least_end leases now lease other e h =
    elim (cases_lt now other.until) [
      | inl later ↦ omega (arith, ended leases now lease e, later)
      | inr le ↦ (leads leases now lease other e h le).until
    ]

pub least_task : (leases : List Lease) (now : ℕ) (lease other : Lease) → first_due leases now ≡ Some lease → Contains leases other → other.until ≡ lease.until → ¬ IsLesserTask other.task lease.task
least_task leases now lease other e h same less =
    let le : other.until ≤ now = omega (arith, ended leases now lease e, same) in
    let order = leads leases now lease other e h le in
    elim less [
      | inl j ↦ omega (arith, j, order.judging same)
      | inr k ↦ omega (arith, k.1, order.test same k.0)
    ]

pub none : (leases : List Lease) (now : ℕ) → (first_due leases now ≡ None) ↔ ((lease : Lease) → Contains leases lease → now < lease.until)
none leases now = (none_ended, empty (ended_at leases now) refl)
  where
    nobody : (xs : List Lease) → reduce earlier_of xs ≡ None → (x : Lease) → Contains xs x → ⊥
    nobody [] e x h = none_in x h
    nobody (y ∷ xs) e x h = let no' : ⊥ = cc in no'

    none_ended : first_due leases now ≡ None → (lease : Lease) → Contains leases lease → now < lease.until
    none_ended e lease h = elim (cases_lt now lease.until) [
      | inl later ↦ later
      | inr le ↦ absurd (nobody (ended_at leases now) e lease (in_filter (has_ended now) lease leases h (le-leb lease.until now le)))
    ]

    empty : (xs : List Lease) → ended_at leases now ≡ xs → ((lease : Lease) → Contains leases lease → now < lease.until) → reduce earlier_of xs ≡ None
    empty [] e h = refl
    empty (x ∷ xs) e h =
        let there : Contains (ended_at leases now) x = subst (λ (ys : List Lease). Contains ys x) (sym e) (first_in x xs) in
        let ends : x.until ≤ now = leb-true x.until now ((from_filter (has_ended now) x leases there).1) in
        let later : now < x.until = h x ((from_filter (has_ended now) x leases there).0) in
        absurd (omega (arith, ends, later))
