-- The first of the shown tasks.
use Rattle.std.proofs.Common.{ℕ, zero, suc, ◌≡◌, ◌≢◌, ◌+◌, ◌-◌, ◌*◌, ◌/◌, ◌^◌, ◌<◌, ◌≤◌, List, [], ◌∷◌, ◌++◌, length, get_or, map, ◌⊎◌, IfSome, IfNone, is_some, Option, Some, None, Bool, true, false, cond, refl, sym, ap, ◌∙◌, arith, inl, inr, slice_get}
use Rattle.std.specs.Prelude.{◌↔◌, ◌==◌}
use Rattle.std.specs.Option.{option_or}
use Rattle.std.specs.List.{filter, flat_map, range_with_len, enumerate_from}
use Rattle.std.proofs.lemmas.Bool.Decides.{nat_tests}
use Rattle.farm_kinds.specs.declared.outcomes.Class.{Class}
use Rattle.farm_kinds.specs.declared.outcomes.Class.TheVariants.{High, Normal, Low}
use Rattle.farm_kinds.specs.declared.outcomes.Task.{Task}
use Rattle.farm_model.specs.Judgings.{task_of}
use Rattle.farm_model.specs.Open.{same_class}
use Rattle.task_tree.specs.Bits.{bit, IsLeast, IsEmpty}
use Rattle.task_tree.specs.Shown.{JudgingTasks, is_shown_test, shown_in, shown_in_class, shown_tasks, first_shown}
use Rattle.task_tree.specs.TreeLayout.{shown_from, tasks_value, tasks_values, kept_at, IsSized, AreSized, IsIndexOf}
use Rattle.task_tree.specs.declared.tree.KeptTasks.{KeptTasks}
use Rattle.task_tree.proofs.ShownTests.{length_shown, get_shown}

filter_first : (f : ℕ → Bool) (a n k : ℕ) → k < n → f (a + k) ≡ true → ((i : ℕ) → i < k → f (a + i) ≡ false) → slice_get (filter f (range_with_len a n)) 0 ≡ Some (a + k)
filter_first f a zero k h e z = absurd (omega arith)
filter_first f a (suc n) zero h e z =
    let at : a + 0 ≡ a = omega arith in
    let here : f a ≡ true = ap f (sym at) ∙ e in
    rw here (ap Some (sym at))
filter_first f a (suc n) (suc k) h e z =
    let here : f a ≡ false = ap f (omega arith) ∙ z 0 (omega arith) in
    let at : a + 1 + k ≡ a + suc k = omega arith in
    rw here (filter_first f (a + 1) n k (omega arith) (ap f at ∙ e) (λ i l. ap f (omega arith) ∙ z (suc i) (omega arith)) ∙ ap Some at)

filter_none : (f : ℕ → Bool) (a n : ℕ) → ((i : ℕ) → i < n → f (a + i) ≡ false) → filter f (range_with_len a n) ≡ []
filter_none f a zero z = refl
filter_none f a (suc n) z =
    let here : f a ≡ false = ap f (omega arith) ∙ z 0 (omega arith) in
    rw here (filter_none f (a + 1) n (λ i l. ap f (omega arith) ∙ z (suc i) (omega arith)))

first_map : {X Y : Type 0} (g : X → Y) (xs : List X) (x : X) → slice_get xs 0 ≡ Some x → slice_get (map g xs) 0 ≡ Some (g x)
first_map g [] x e = cc
first_map g (y ∷ xs) x e = let s : y ≡ x = cc in ap (λ z. Some (g z)) s

shown_at : (kept : KeptTasks) (i : ℕ) → i < kept.tests → is_shown_test (shown_from kept.shown 0 kept.tests) (1 + i) ≡ (bit kept.shown i == 1)
shown_at kept i h =
    let at : 1 + i - 1 ≡ i = omega arith in
    let zero_at : 0 + i ≡ i = omega arith in
    ap (λ k. get_or (shown_from kept.shown 0 kept.tests) k false) at ∙ get_shown kept.shown 0 kept.tests i h ∙ ap (λ k. bit kept.shown k == 1) zero_at

not_one : (n : ℕ) → n ≢ 1 → (n == 1) ≡ false
not_one n h = grind (arith, nat_tests)

first_in_judging : (j : ℕ) (kept : KeptTasks) (k : ℕ) → IsSized kept → IsLeast kept.shown k → slice_get (shown_in (j, tasks_value kept)) 0 ≡ Some (task_of j (1 + k))
first_in_judging j kept k s least =
    let small = s.bound k least.here in
    first_map (task_of j) _ (1 + k) (rw (length_shown kept.shown 0 kept.tests) (filter_first (is_shown_test (shown_from kept.shown 0 kept.tests)) 1 kept.tests k small
    (shown_at kept k small ∙ ap (λ m. m == 1) least.here)
    (λ i l. shown_at kept i (omega (arith, l, small)) ∙ ap (λ m. m == 1) (least.before i l))))

none_in_judging : (j : ℕ) (kept : KeptTasks) → ((k : ℕ) → bit kept.shown k ≢ 1) → shown_in (j, tasks_value kept) ≡ []
none_in_judging j kept none =
    let shown = shown_from kept.shown 0 kept.tests in
    let e : filter (is_shown_test shown) (range_with_len 1 (length shown)) ≡ [] =
    ap (λ n. filter (is_shown_test shown) (range_with_len 1 n)) (length_shown kept.shown 0 kept.tests) ∙ filter_none (is_shown_test shown) 1 kept.tests (λ i l. shown_at kept i l ∙ not_one (bit kept.shown i) (none i)) in
    ap (map (task_of j)) e

same_class_is : (a b : Class) → same_class a b ≡ true → a ≡ b
same_class_is High High e = refl
same_class_is Normal Normal e = refl
same_class_is Low Low e = refl
same_class_is High Normal e = cc
same_class_is High Low e = cc
same_class_is Normal High e = cc
same_class_is Normal Low e = cc
same_class_is Low High e = cc
same_class_is Low Normal e = cc

class_same : (a b : Class) → a ≡ b → same_class a b ≡ true
class_same High b e = rw (sym e) refl
class_same Normal b e = rw (sym e) refl
class_same Low b e = rw (sym e) refl

-- the shown tasks of a class among judgings that are numbered from n on
abbrev from : Class → ℕ → List KeptTasks → List Task
from class n ks = flat_map shown_in (filter (λ p. same_class p.1.class class) (enumerate_from n (tasks_values ks)))

none_from : (class : Class) (n : ℕ) (ks : List KeptTasks) → ((i k : ℕ) → i < length ks → (kept_at ks i).class ≡ class → bit (kept_at ks i).shown k ≢ 1) → from class n ks ≡ []
none_from class n [] h = refl
none_from class n (kept ∷ ks) h =
    let rest = none_from class (n + 1) ks (λ i k l e. h (suc i) k (omega arith) e) in
    step (same_class kept.class class) refl rest where
      step : (b : Bool) → same_class kept.class class ≡ b → from class (n + 1) ks ≡ []
          → flat_map shown_in (cond b ((n, tasks_value kept) ∷ filter (λ p. same_class p.1.class class) (enumerate_from (n + 1) (tasks_values ks))) (filter (λ p. same_class p.1.class class) (enumerate_from (n + 1) (tasks_values ks)))) ≡ []
      step true e rest = ap (λ xs. xs ++ from class (n + 1) ks) (none_in_judging n kept (λ k. h 0 k (omega arith) (same_class_is kept.class class e))) ∙ rest
      step false e rest = rest

first_cons : {X : Type 0} (xs ys : List X) (x : X) → slice_get xs 0 ≡ Some x → slice_get (xs ++ ys) 0 ≡ Some x
first_cons [] ys x e = cc
first_cons (y ∷ xs) ys x e = e

first_from : (class : Class) (n : ℕ) (ks : List KeptTasks) (i k : ℕ) → i < length ks → (kept_at ks i).class ≡ class → IsSized (kept_at ks i) → IsLeast (kept_at ks i).shown k
    → ((m q : ℕ) → m < i → (kept_at ks m).class ≡ class → bit (kept_at ks m).shown q ≢ 1) → slice_get (from class n ks) 0 ≡ Some (task_of (n + i) (1 + k))
first_from class n [] i k l e s least h = absurd (omega arith)
first_from class n (kept ∷ ks) zero k l e s least h =
    let at : n + 0 ≡ n = omega arith in
    rw (class_same kept.class class e, at) (first_cons (shown_in (n, tasks_value kept)) (from class (n + 1) ks) (task_of n (1 + k)) (first_in_judging n kept k s least))
first_from class n (kept ∷ ks) (suc i) k l e s least h =
    let at : n + 1 + i ≡ n + suc i = omega arith in
    let rest : slice_get (from class (n + 1) ks) 0 ≡ Some (task_of (n + suc i) (1 + k)) =
    first_from class (n + 1) ks i k (omega arith) e s least (λ m q lt f. h (suc m) q (omega arith) f) ∙ ap (λ j. Some (task_of j (1 + k))) at in
    step (same_class kept.class class) refl rest where
      step : (b : Bool) → same_class kept.class class ≡ b → slice_get (from class (n + 1) ks) 0 ≡ Some (task_of (n + suc i) (1 + k))
          → slice_get (flat_map shown_in (cond b ((n, tasks_value kept) ∷ filter (λ p. same_class p.1.class class) (enumerate_from (n + 1) (tasks_values ks))) (filter (λ p. same_class p.1.class class) (enumerate_from (n + 1) (tasks_values ks))))) 0 ≡ Some (task_of (n + suc i) (1 + k))
      step true c rest = ap (λ xs. slice_get (xs ++ from class (n + 1) ks) 0) (none_in_judging n kept (λ q. h 0 q (omega arith) (same_class_is kept.class class c))) ∙ rest
      step false c rest = rest

-- none of the class is shown where the set is empty
pub none_of_class : (class : Class) (ks : List KeptTasks) (ns : List ℕ) → IsIndexOf class ks ns → IsEmpty ns → slice_get (shown_in_class (tasks_values ks) class) 0 ≡ None
none_of_class class ks ns a none =
    ap (λ xs. slice_get xs 0) (none_from class 1 ks (λ i k l e b. one_is_not_zero (bit ns i) (a.listed i k l e b) (none.none i))) where
      one_is_not_zero : (n : ℕ) → n ≡ 1 → n ≡ 0 → ⊥
      one_is_not_zero n a b = omega arith

pub first_of_class : (class : Class) (ks : List KeptTasks) (ns : List ℕ) (i k : ℕ) → AreSized ks → IsIndexOf class ks ns → IsLeast ns i → IsLeast (kept_at ks i).shown k
    → slice_get (shown_in_class (tasks_values ks) class) 0 ≡ Some (task_of (i + 1) (k + 1))
first_of_class class ks ns i k s a least inner =
    let there = a.known i least.here in
    let one : 1 + i ≡ i + 1 = omega arith in
    let two : 1 + k ≡ k + 1 = omega arith in
    first_from class 1 ks i k there (a.class_is i least.here) (s.each i there) inner
    (λ m q lt e b. clash (bit ns m) (a.listed m q (omega (arith, lt, there)) e b) (least.before m lt))
    ∙ ap (λ j. Some (task_of j (1 + k))) one ∙ ap (λ t. Some (task_of (i + 1) t)) two where
      clash : (n : ℕ) → n ≡ 1 → n ≡ 0 → ⊥
      clash n a b = omega arith

-- ---- over the classes

pub first_append : {X : Type 0} (xs ys : List X) → slice_get (xs ++ ys) 0 ≡ option_or (slice_get xs 0) (slice_get ys 0)
first_append [] ys = refl
first_append (x ∷ xs) ys = refl

pub first_shown_is : (js : List JudgingTasks) → first_shown js ≡ option_or (option_or (slice_get (shown_in_class js High) 0) (slice_get (shown_in_class js Normal) 0)) (slice_get (shown_in_class js Low) 0)
first_shown_is js =
    let high = shown_in_class js High in
    let normal = shown_in_class js Normal in
    let low = shown_in_class js Low in
    first_append (high ++ normal) low ∙ ap (λ o. option_or o (slice_get low 0)) (first_append high normal)

none_first : {X : Type 0} (xs : List X) → slice_get xs 0 ≡ None → xs ≡ []
none_first [] e = refl
none_first (x ∷ xs) e = cc

-- there is no first exactly where none is shown
pub none_shown : (js : List JudgingTasks) (o : Option Task) → o ≡ first_shown js → (o ≡ None) ↔ (shown_tasks js ≡ [])
none_shown js o e = (λ n. none_first (shown_tasks js) (sym e ∙ n), λ z. e ∙ ap (λ xs. slice_get xs 0) z)

-- steps
pub enough_bits : (n t b : ℕ) → n < 2 ^ b → 0 < n → t ≤ 1 + n / 64 → t ≤ 2 → 3 * t + 18 ≤ 2 * b + 20
enough_bits n t zero h some few two = let e : n < 1 = h in absurd (omega arith)
enough_bits n t (suc zero) h some few two = let e : n < 2 = h in omega arith
enough_bits n t (suc (suc b)) h some few two = omega arith

pub foremost : (h n l : Option Task) → is_some h ≡ true → h ≡ option_or (option_or h n) l
foremost None n l p = cc
foremost (Some x) n l p = refl

pub second : (h n l : Option Task) → is_some h ≡ false → is_some n ≡ true → n ≡ option_or (option_or h n) l
second None None l p q = cc
second None (Some y) l p q = refl
second (Some x) n l p q = cc

pub third : (h n l : Option Task) → is_some h ≡ false → is_some n ≡ false → l ≡ option_or (option_or h n) l
third None None l p q = refl
third None (Some y) l p q = cc
third (Some x) n l p q = cc

pub if_some : {X : Type 0} (o : Option X) (P : Type 0) → is_some o ≡ true → IfSome o (λ _. P) → P
if_some None P e h = cc
if_some (Some x) P e h = h

pub if_none : {X : Type 0} (o : Option X) (P : Type 0) → is_some o ≡ false → IfNone o P → P
if_none None P e h = h
if_none (Some x) P e h = cc

pub either : {X : Type 0} (o : Option X) (P Q : Type 0) → IfNone o P → IfSome o (λ _. Q) → P ⊎ Q
either None P Q h k = inl h
either (Some x) P Q h k = inr k
