-- Where no task is open and none is held, no test is still to be judged.
use Rattle.std.proofs.Common.{ℕ, zero, suc, ◌≡◌, ◌+◌, ◌-◌, ◌<◌, List, [], ◌∷◌, ◌++◌, Some, None, Bool, true, false, cond, refl, sym, ap, ◌∙◌, subst, arith, length, map, slice_get}
use Rattle.std.specs.Prelude.{is_none}
use Rattle.std.specs.List.{filter, flat_map, enumerate_from, range_with_len}
use Rattle.std.proofs.lemmas.Option.{slice_get_within, get_or_from_slice_get}
use Rattle.farm_kinds.specs.declared.outcomes.Class.{Class}
use Rattle.farm_kinds.specs.declared.outcomes.Class.TheVariants.{High, Normal, Low}
use Rattle.farm_kinds.specs.declared.outcomes.Task.{Task}
use Rattle.farm_kinds.specs.RuleValue.{RuleValue}
use Rattle.farm_model.specs.Numbered.{item_of, numbers_to}
use Rattle.farm_model.specs.Judgings.{Judging, task_of}
use Rattle.farm_model.specs.Open.{same_class, is_empty_cell, is_wanted, wanted_tests, is_free, open_in, judgings_in, open_in_class, open_tasks, is_active}
use Rattle.farm_laws.proofs.Items.{item_at}
use Rattle.farm_laws.proofs.Each.{Each}

-- ---- empty lists

left_empty : {X : Type 0} (xs ys : List X) → xs ++ ys ≡ [] → xs ≡ []
left_empty [] ys h = refl
left_empty (x ∷ xs) ys h = cc

right_empty : {X : Type 0} (xs ys : List X) → xs ++ ys ≡ [] → ys ≡ []
right_empty [] ys h = h
right_empty (x ∷ xs) ys h = cc

map_empty : {X Y : Type 0} (f : X → Y) (xs : List X) → map f xs ≡ [] → xs ≡ []
map_empty f [] h = refl
map_empty f (x ∷ xs) h = cc

none_first : {X : Type 0} (xs : List X) → slice_get xs 0 ≡ None → xs ≡ []
none_first [] h = refl
none_first (x ∷ xs) h = cc

each_none : {X Y : Type 0} (f : X → List Y) (xs : List X) → flat_map f xs ≡ [] → Each (λ x. f x ≡ []) xs
each_none f [] h = tt
each_none f (x ∷ xs) h = (left_empty (f x) (flat_map f xs) h, each_none f xs (right_empty (f x) (flat_map f xs) h))

-- nothing passes the test
each_fails : {X : Type 0} (p : X → Bool) (xs : List X) → filter p xs ≡ [] → Each (λ x. p x ≡ false) xs
each_fails p [] h = tt
each_fails p (x ∷ xs) h = elim (p x) as (λ b. p x ≡ b → cond b (x ∷ filter p xs) (filter p xs) ≡ [] → Each (λ x. p x ≡ false) (x ∷ xs)) [
  | true ↦ λ e none. cc
  | false ↦ λ e none. (e, each_fails p xs none)
] refl h

-- what holds of each item that passes
each_unkept : {X : Type 0} (P : X → Type 0) (p : X → Bool) (xs : List X) → Each P (filter p xs) → Each (λ x. p x ≡ true → P x) xs
each_unkept P p [] h = tt
each_unkept P p (x ∷ xs) h = elim (p x) as (λ b. p x ≡ b → Each P (cond b (x ∷ filter p xs) (filter p xs)) → Each (λ x. p x ≡ true → P x) (x ∷ xs)) [
  | true ↦ λ e kept. (λ passes. kept.0, each_unkept P p xs kept.1)
  | false ↦ λ e kept. (λ passes. (let no : true ≡ false = sym passes ∙ e in cc), each_unkept P p xs kept)
] refl h

each_number : (P : ℕ → Type 0) (a n i : ℕ) → i < n → Each P (range_with_len a n) → P (a + i)
each_number P a zero i lt h = absurd (omega (arith, lt))
each_number P a (suc n) zero lt h = subst P (let e : a ≡ a + 0 = omega arith in e) h.0
each_number P a (suc n) (suc i) lt h =
    subst P (let e : a + 1 + i ≡ a + suc i = omega arith in e) (each_number P (a + 1) n i (omega (arith, lt)) h.1)

each_item : {X : Type 0} (P : ℕ × X → Type 0) (xs : List X) (a i : ℕ) (x : X) → slice_get xs i ≡ Some x → Each P (enumerate_from a xs) → P (a + i, x)
each_item P [] a i x e h = cc
each_item P (y ∷ xs) a zero x e h = let same : y ≡ x = cc in subst (λ n. P (n, x)) (let e : a ≡ a + 0 = omega arith in e) (subst (λ z. P (a, z)) same h.0)
each_item P (y ∷ xs) a (suc i) x e h =
    subst (λ n. P (n, x)) (let e : a + 1 + i ≡ a + suc i = omega arith in e) (each_item P xs (a + 1) i x e h.1)

-- ---- open tasks

all_free : (tasks : List Task) → filter (is_free []) tasks ≡ tasks
all_free [] = refl
all_free (task ∷ tasks) = ap (λ rest. task ∷ rest) (all_free tasks)

own_class : (class : Class) → same_class class class ≡ true
own_class High = refl
own_class Normal = refl
own_class Low = refl

class_empty : (rule : RuleValue) (judgings : List Judging) (class : Class) → open_tasks rule judgings [] ≡ [] → open_in_class rule judgings [] class ≡ []
class_empty rule judgings High h =
    let both = left_empty (open_in_class rule judgings [] High ++ open_in_class rule judgings [] Normal) (open_in_class rule judgings [] Low) h in
    left_empty (open_in_class rule judgings [] High) (open_in_class rule judgings [] Normal) both
class_empty rule judgings Normal h =
    let both = left_empty (open_in_class rule judgings [] High ++ open_in_class rule judgings [] Normal) (open_in_class rule judgings [] Low) h in
    right_empty (open_in_class rule judgings [] High) (open_in_class rule judgings [] Normal) both
class_empty rule judgings Low h =
    right_empty (open_in_class rule judgings [] High ++ open_in_class rule judgings [] Normal) (open_in_class rule judgings [] Low) h

abbrev WantsNone : RuleValue → ℕ × Judging → Type 0
WantsNone rule p = wanted_tests rule p.1.mode p.1.row ≡ []

wants_none : (rule : RuleValue) (p : ℕ × Judging) → open_in rule [] p ≡ [] → WantsNone rule p
wants_none rule p h =
    map_empty (task_of p.0) (wanted_tests rule p.1.mode p.1.row) (sym (all_free (map (task_of p.0) (wanted_tests rule p.1.mode p.1.row))) ∙ h)

-- a judging that was asked for and is not dropped
judging_empty : (rule : RuleValue) (judgings : List Judging) (j : ℕ) (g : Judging) → open_tasks rule judgings [] ≡ []
    → item_of judgings j ≡ Some g → is_active g ≡ true → wanted_tests rule g.mode g.row ≡ []
judging_empty rule judgings j g none there active =
    let place = item_at judgings j g there in
    let in_class = each_none (open_in rule []) (judgings_in judgings g.class) (class_empty rule judgings g.class none) in
    let of_class = each_unkept (λ p. open_in rule [] p ≡ []) (λ p. same_class p.1.class g.class) (filter (λ p. is_active p.1) (enumerate_from 1 judgings)) in_class in
    let all = each_unkept (λ p. same_class p.1.class g.class ≡ true → open_in rule [] p ≡ []) (λ p. is_active p.1) (enumerate_from 1 judgings) of_class in
    let this = each_item (λ p. is_active p.1 ≡ true → same_class p.1.class g.class ≡ true → open_in rule [] p ≡ []) judgings 1 (j - 1) g place.1 all in
    wants_none rule (1 + (j - 1), g) (this active (own_class g.class))

-- no empty cell of it is still to be judged
pub not_wanted : (rule : RuleValue) (judgings : List Judging) (j : ℕ) (g : Judging) (test : ℕ) → slice_get (open_tasks rule judgings []) 0 ≡ None
    → item_of judgings j ≡ Some g → is_active g ≡ true → item_of g.row test ≡ Some None → is_wanted rule g.mode g.row test ≡ false
not_wanted rule judgings j g test none there active empty =
    let place = item_at g.row test None empty in
    let wanted = judging_empty rule judgings j g (none_first (open_tasks rule judgings []) none) there active in
    let fails = each_fails (is_wanted rule g.mode g.row) (filter (is_empty_cell g.row) (numbers_to (length g.row))) wanted in
    let cells = each_unkept (λ t. is_wanted rule g.mode g.row t ≡ false) (is_empty_cell g.row) (numbers_to (length g.row)) fails in
    let inside : test - 1 < length g.row = slice_get_within g.row (test - 1) None place.1 in
    let this = each_number (λ t. is_empty_cell g.row t ≡ true → is_wanted rule g.mode g.row t ≡ false) 1 (length g.row) (test - 1) inside cells in
    let number : 1 + (test - 1) ≡ test = omega (arith, place.0) in
    subst (λ t. is_empty_cell g.row t ≡ true → is_wanted rule g.mode g.row t ≡ false) number this
    (ap is_none (get_or_from_slice_get g.row (test - 1) None None place.1))
