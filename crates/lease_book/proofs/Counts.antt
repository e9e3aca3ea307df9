-- How many items of a list pass a test, and what filters make of that.
use Rattle.std.proofs.Common.{ℕ, ◌≡◌, ◌+◌, ◌≤◌, List, [], ◌∷◌, ◌++◌, Some, None, Bool, true, false, not, cond, refl, sym, ap, ◌∙◌, subst, arith, length, filter, find, count_by, is_some}
use Rattle.std.proofs.lemmas.List.Sums.{sum_by-cons, sum_by_push, length-filter}
use Rattle.std.proofs.lemmas.List.Filters.{length-filter_both, sum_by-filter_both}

abbrev pub one_if : Bool → ℕ
one_if b = cond b 1 0

pub count_cons : {X : Type 0} (p : X → Bool) (x : X) (xs : List X) → count_by p (x ∷ xs) ≡ one_if (p x) + count_by p xs
count_cons p x xs = sum_by-cons (λ y. cond (p y) 1 0) x xs

pub count_push : {X : Type 0} (p : X → Bool) (xs : List X) (x : X) → count_by p (xs ++ x ∷ []) ≡ count_by p xs + one_if (p x)
count_push p xs x = sum_by_push (λ y. cond (p y) 1 0) xs x

-- what passes and what does not are the whole list
pub length_kept : {X : Type 0} (p : X → Bool) (xs : List X) → length xs ≡ length (filter (λ x. not (p x)) xs) + count_by p xs
length_kept p xs = omega (arith, length-filter_both p (λ x. not (p x)) (λ _. refl) xs, length-filter p xs)

pub count_parts : {X : Type 0} (p q : X → Bool) (xs : List X) → count_by q (filter p xs) + count_by q (filter (λ x. not (p x)) xs) ≡ count_by q xs
count_parts p q xs = sum_by-filter_both p (λ x. not (p x)) (λ _. refl) (λ x. cond (q x) 1 0) xs

-- where at most one item passes, it is found or there is none
pub found_once : {X : Type 0} (p : X → Bool) (xs : List X) → count_by p xs ≤ 1 → count_by p xs ≡ one_if (is_some (find p xs))
found_once p [] h = refl
found_once p (x ∷ xs) h =
    let e = count_cons p x xs in
    let few : one_if (p x) + count_by p xs ≤ 1 = omega (arith, e, h) in
    e ∙ (elim (p x) as (λ t. one_if t + count_by p xs ≤ 1 → one_if t + count_by p xs ≡ one_if (is_some (cond t (Some x) (find p xs)))) [
      | true ↦ λ (k : 1 + count_by p xs ≤ 1). omega arith
      | false ↦ λ (k : 0 + count_by p xs ≤ 1). let ih = found_once p xs (omega arith) in omega arith
    ] few)

pub none_left : {X : Type 0} (p : X → Bool) (xs : List X) → count_by p (filter (λ x. not (p x)) xs) ≡ 0
none_left p [] = refl
none_left p (x ∷ xs) =
    let ih = none_left p xs in
    let step : (t : Bool) → p x ≡ t → count_by p (cond (not t) (x ∷ filter (λ y. not (p y)) xs) (filter (λ y. not (p y)) xs)) ≡ 0
    = λ t. elim t as (λ t. p x ≡ t → count_by p (cond (not t) (x ∷ filter (λ y. not (p y)) xs) (filter (λ y. not (p y)) xs)) ≡ 0) [
      | true ↦ λ e. ih
      | false ↦ λ e. count_cons p x (filter (λ y. not (p y)) xs) ∙ (ap (λ b. one_if b + count_by p (filter (λ y. not (p y)) xs)) e ∙ omega (arith, ih))
    ] in
    step (p x) refl

pub filter_idle : {X : Type 0} (p : X → Bool) (xs : List X) → count_by p xs ≡ 0 → filter (λ x. not (p x)) xs ≡ xs
filter_idle p [] h = refl
filter_idle p (x ∷ xs) h =
    let e : one_if (p x) + count_by p xs ≡ 0 = sym (count_cons p x xs) ∙ h in
    elim (p x) as (λ t. one_if t + count_by p xs ≡ 0 → cond (not t) (x ∷ filter (λ y. not (p y)) xs) (filter (λ y. not (p y)) xs) ≡ x ∷ xs) [
      | true ↦ λ (k : 1 + count_by p xs ≡ 0). absurd (omega arith)
      | false ↦ λ (k : 0 + count_by p xs ≡ 0). ap (λ ys. x ∷ ys) (filter_idle p xs (omega arith))
    ] e

-- of two filters the one that stands first does not matter
pub filters_swap : {X : Type 0} (p q : X → Bool) (xs : List X) → filter p (filter q xs) ≡ filter q (filter p xs)
filters_swap p q [] = refl
filters_swap {X} p q (x ∷ xs) =
    let ih = filters_swap p q xs in
    let ps = filter p xs in
    let qs = filter q xs in
    let step : (t u : Bool) → p x ≡ t → q x ≡ u → filter p (cond u (x ∷ filter q xs) (filter q xs)) ≡ filter q (cond t (x ∷ filter p xs) (filter p xs))
    = λ t u. elim t as (λ t. p x ≡ t → q x ≡ u → filter p (cond u (x ∷ filter q xs) (filter q xs)) ≡ filter q (cond t (x ∷ filter p xs) (filter p xs))) [
      | true ↦ λ e. elim u as (λ u. q x ≡ u → filter p (cond u (x ∷ filter q xs) (filter q xs)) ≡ filter q (x ∷ filter p xs)) [
        | true ↦ λ f. rw (e, f) (ap (λ ys. x ∷ ys) ih)
        | false ↦ λ f. rw f ih
      ]
      | false ↦ λ e. elim u as (λ u. q x ≡ u → filter p (cond u (x ∷ filter q xs) (filter q xs)) ≡ filter q (filter p xs)) [
        | true ↦ λ f. rw e ih
        | false ↦ λ f. ih
      ]
    ] in
    step (p x) (q x) refl refl

-- what passes both tests is counted in either order
pub counts_swap : {X : Type 0} (p q : X → Bool) (xs : List X) → count_by p (filter q xs) ≡ count_by q (filter p xs)
counts_swap p q xs = sym (length-filter p (filter q xs)) ∙ (ap (λ ys. length ys) (filters_swap p q xs) ∙ length-filter q (filter p xs))

-- a test that passes whatever another does passes no fewer
pub count_wider : {X : Type 0} (p q : X → Bool) → ((x : X) → q x ≡ true → p x ≡ true) → (xs : List X) → count_by q xs ≤ count_by p xs
count_wider p q h [] = omega arith
count_wider {X} p q h (x ∷ xs) =
    let here : (t : Bool) → q x ≡ t → one_if t ≤ one_if (p x)
    = λ t. elim t as (λ t. q x ≡ t → one_if t ≤ one_if (p x)) [
      | true ↦ λ e. let one : one_if (p x) ≡ 1 = ap one_if (h x e) in omega (arith, one)
      | false ↦ λ e. omega arith
    ] in
    omega (arith, here (q x) refl, count_wider p q h xs, count_cons p x xs, count_cons q x xs)

-- what is found passes, and is one of the items
pub found_passes : {X : Type 0} (p : X → Bool) (xs : List X) (x : X) → find p xs ≡ Some x → p x ≡ true
found_passes p [] x e = cc
found_passes {X} p (y ∷ ys) x e =
    elim (p y) as (λ t. p y ≡ t → cond t (Some y) (find p ys) ≡ Some x → p x ≡ true) [
      | true ↦ λ t f. let is : y ≡ x = cc in subst (λ (z : X). p z ≡ true) is t
      | false ↦ λ t f. found_passes p ys x f
    ] refl e

pub found_counts : {X : Type 0} (p q : X → Bool) (xs : List X) (x : X) → find p xs ≡ Some x → q x ≡ true → 1 ≤ count_by q xs
found_counts p q [] x e t = cc
found_counts {X} p q (y ∷ ys) x e t =
    elim (p y) as (λ b. cond b (Some y) (find p ys) ≡ Some x → 1 ≤ count_by q (y ∷ ys)) [
      | true ↦ λ f. let is : y ≡ x = cc in let one : one_if (q y) ≡ 1 = ap (λ (z : X). one_if (q z)) is ∙ ap one_if t in omega (arith, count_cons q y ys, one)
      | false ↦ λ f. omega (arith, count_cons q y ys, found_counts p q ys x f t)
    ] e

pub none_counts : {X : Type 0} (p : X → Bool) (xs : List X) → find p xs ≡ None → count_by p xs ≡ 0
none_counts p [] e = refl
none_counts {X} p (y ∷ ys) e =
    elim (p y) as (λ b. p y ≡ b → cond b (Some y) (find p ys) ≡ None → count_by p (y ∷ ys) ≡ 0) [
      | true ↦ λ t f. cc
      | false ↦ λ t f. let none : one_if (p y) ≡ 0 = ap one_if t in omega (arith, count_cons p y ys, none, none_counts p ys f)
    ] refl e

pub counts_none : {X : Type 0} (p : X → Bool) (xs : List X) → count_by p xs ≡ 0 → find p xs ≡ None
counts_none p [] e = refl
counts_none {X} p (y ∷ ys) e =
    elim (p y) as (λ b. one_if b + count_by p ys ≡ 0 → cond b (Some y) (find p ys) ≡ None) [
      | true ↦ λ (k : 1 + count_by p ys ≡ 0). absurd (omega arith)
      | false ↦ λ (k : 0 + count_by p ys ≡ 0). counts_none p ys (omega arith)
    ] (sym (count_cons p y ys) ∙ e)

-- where at most one item passes p, and x is there and passes it, it is x that is found; q knows x
pub found_only : {X : Type 0} (p q : X → Bool) (x : X) → ((y : X) → q y ≡ true → y ≡ x) → p x ≡ true → (xs : List X) → count_by p xs ≤ 1 → 1 ≤ count_by q xs → find p xs ≡ Some x
found_only p q x knows t [] few some = absurd (omega (arith, some))
found_only {X} p q x knows t (y ∷ ys) few some =
    let cp = count_cons p y ys in
    let cq = count_cons q y ys in
    let wide : count_by q ys ≤ count_by p ys = count_wider p q (λ z e. subst (λ (w : X). p w ≡ true) (sym (knows z e)) t) ys in
    elim (q y) as (λ b. q y ≡ b → one_if b + count_by q ys ≡ count_by q (y ∷ ys) → cond (p y) (Some y) (find p ys) ≡ Some x) [
      | true ↦ λ e k.
          let is : y ≡ x = knows y e in
          let here : p y ≡ true = subst (λ (w : X). p w ≡ true) (sym is) t in
          rw here (ap Some is)
      | false ↦ λ e (k : 0 + count_by q ys ≡ count_by q (y ∷ ys)).
          let left : 1 ≤ count_by q ys = omega (arith, k, some) in
          elim (p y) as (λ b. one_if b + count_by p ys ≤ 1 → cond b (Some y) (find p ys) ≡ Some x) [
            | true ↦ λ (f : 1 + count_by p ys ≤ 1). absurd (omega (arith, wide, left, f))
            | false ↦ λ (f : 0 + count_by p ys ≤ 1). found_only p q x knows t ys (omega (arith, f)) left
          ] (omega (arith, cp, few))
    ] refl (sym cq)

pub filter_only : {X : Type 0} (p : X → Bool) (xs : List X) (x : X) → count_by p xs ≤ 1 → find p xs ≡ Some x → filter p xs ≡ x ∷ []
filter_only p [] x few e = cc
filter_only {X} p (y ∷ ys) x few e =
    elim (p y) as (λ b. one_if b + count_by p ys ≤ 1 → cond b (Some y) (find p ys) ≡ Some x → cond b (y ∷ filter p ys) (filter p ys) ≡ x ∷ []) [
      | true ↦ λ (f : 1 + count_by p ys ≤ 1) g.
          let is : y ≡ x = cc in
          let rest : filter p ys ≡ [] = no_more (filter p ys) (length-filter p ys ∙ omega (arith, f)) in
          ap (λ z. z ∷ filter p ys) is ∙ ap (λ zs. x ∷ zs) rest
      | false ↦ λ (f : 0 + count_by p ys ≤ 1) g. filter_only p ys x (omega (arith, f)) g
    ] (omega (arith, count_cons p y ys, few)) e where
      no_more : {X : Type 0} (xs : List X) → length xs ≡ 0 → xs ≡ []
      no_more [] e = refl
      no_more (x ∷ xs) e = absurd (omega (arith, e))
