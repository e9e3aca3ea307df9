-- Judgings that change, and their index by class.
use Rattle.std.proofs.Common.{ℕ, ◌≡◌, ◌≢◌, ◌+◌, ◌*◌, ◌/◌, ◌<◌, ◌≤◌, ◌⊎◌, List, [], ◌∷◌, ◌++◌, length, set, refl, sym, ap, ◌∙◌, arith, inl, inr, subst, length-set, get_or-set_same, get_or-set_other}
use Rattle.std.proofs.lemmas.Bool.{cases_eq, cases_lt}
use Rattle.std.proofs.lemmas.List.{length_push, get_or_push, get_or_append_left, get_or_past}
use Rattle.farm_kinds.specs.declared.outcomes.Class.{Class}
use Rattle.farm_kinds.specs.declared.outcomes.Class.TheVariants.{High, Normal, Low}
use Rattle.task_tree.specs.Bits.{bit, IsInserted, IsRemoved, IsEmpty}
use Rattle.task_tree.specs.Tree.{of_class, HasRoom, IsReserved}
use Rattle.task_tree.specs.TreeLayout.{kept_at, no_tasks, IsSized, AreSized, IsIndexOf, IsIndexed}
use Rattle.task_tree.proofs.Bitwise.{none_in}
use Rattle.task_tree.specs.declared.tree.KeptTasks.{KeptTasks}
use Rattle.task_tree.specs.declared.classes.Classes.{Classes}

at_changed : (ks : List KeptTasks) (p i : ℕ) (y : KeptTasks) → p < length ks → i ≡ p → kept_at (set ks p y) i ≡ y
at_changed ks p i y h same = ap (λ j. kept_at (set ks p y) j) same ∙ get_or-set_same ks p y no_tasks h

at_other : (ks : List KeptTasks) (p i : ℕ) (y : KeptTasks) → i ≢ p → kept_at (set ks p y) i ≡ kept_at ks i
at_other ks p i y n = get_or-set_other ks p i y no_tasks n

pub sized_set : (ks : List KeptTasks) (p : ℕ) (y : KeptTasks) → p < length ks → AreSized ks → IsSized y → AreSized (set ks p y)
sized_set ks p y h s t = record {
  each = λ i l. elim (cases_eq i p) [
    | inl same ↦ subst IsSized (sym (at_changed ks p i y h same)) t
    | inr other ↦ subst IsSized (sym (at_other ks p i y other)) (s.each i (omega (arith, l, length-set ks p y)))
  ];
}

index_change : (c : Class) (ks : List KeptTasks) (ns ms : List ℕ) (p : ℕ) (y : KeptTasks) → p < length ks → IsIndexOf c ks ns
    → ((i : ℕ) → i ≢ p → bit ms i ≡ bit ns i)
    → (y.class ≡ c → (k : ℕ) → bit y.shown k ≡ 1 → bit ms p ≡ 1) → (bit ms p ≡ 1 → y.class ≡ c) → (bit ms p ≡ 1 → (k : ℕ) × (bit y.shown k ≡ 1))
    → IsIndexOf c (set ks p y) ms
index_change c ks ns ms p y h a others listed class_is some = record {
  listed = λ i k l e b. elim (cases_eq i p) [
    | inl same ↦ ap (bit ms) same ∙ listed (subst (λ (x : KeptTasks). x.class ≡ c) (at_changed ks p i y h same) e) k (subst (λ (x : KeptTasks). bit x.shown k ≡ 1) (at_changed ks p i y h same) b)
    | inr other ↦ others i other ∙ a.listed i k (omega (arith, l, length-set ks p y)) (subst (λ (x : KeptTasks). x.class ≡ c) (at_other ks p i y other) e) (subst (λ (x : KeptTasks). bit x.shown k ≡ 1) (at_other ks p i y other) b)
  ];
  known = λ i b. elim (cases_eq i p) [
    | inl same ↦ omega (arith, same, h, length-set ks p y)
    | inr other ↦ let u = a.known i (sym (others i other) ∙ b) in omega (arith, u, length-set ks p y)
  ];
  class_is = λ i b. elim (cases_eq i p) [
    | inl same ↦ subst (λ (x : KeptTasks). x.class ≡ c) (sym (at_changed ks p i y h same)) (class_is (sym (ap (bit ms) same) ∙ b))
    | inr other ↦ subst (λ (x : KeptTasks). x.class ≡ c) (sym (at_other ks p i y other)) (a.class_is i (sym (others i other) ∙ b))
  ];
  some = λ i b. elim (cases_eq i p) [
    | inl same ↦ subst (λ (x : KeptTasks). (k : ℕ) × (bit x.shown k ≡ 1)) (sym (at_changed ks p i y h same)) (some (sym (ap (bit ms) same) ∙ b))
    | inr other ↦ subst (λ (x : KeptTasks). (k : ℕ) × (bit x.shown k ≡ 1)) (sym (at_other ks p i y other)) (a.some i (sym (others i other) ∙ b))
  ];
}

class_cases : (a b : Class) → (a ≡ b) ⊎ (a ≢ b)
class_cases High High = inl refl
class_cases High Normal = inr (λ e. cc)
class_cases High Low = inr (λ e. cc)
class_cases Normal High = inr (λ e. cc)
class_cases Normal Normal = inl refl
class_cases Normal Low = inr (λ e. cc)
class_cases Low High = inr (λ e. cc)
class_cases Low Normal = inr (λ e. cc)
class_cases Low Low = inl refl

zero_is_not_one : (n : ℕ) → n ≡ 0 → n ≡ 1 → ⊥
zero_is_not_one n a b = omega arith

-- the set of one class is another
record IsChanged (old new : Classes) (class : Class) : Type 0 where
  others : (c : Class) → c ≢ class → of_class new c ≡ of_class old c
  size : length (of_class new class).numbers ≡ length (of_class old class).numbers
  top_words : (of_class new class).top_words ≡ (of_class old class).top_words

changed_index : (ks : List KeptTasks) (old new : Classes) (class : Class) (p : ℕ) (y : KeptTasks) → IsIndexed ks old → IsChanged old new class
    → ((c : Class) → IsIndexOf c (set ks p y) (of_class new c).numbers) → IsIndexed (set ks p y) new
changed_index ks old new class p y a d each = record {
  each = each;
  room = λ c. elim (class_cases c class) [
    | inl same ↦ subst (λ e. length (set ks p y) ≤ 64 * length (of_class new e).numbers) (sym same) (omega (arith, a.room class, d.size, length-set ks p y))
    | inr other ↦ subst (λ e. length (set ks p y) ≤ 64 * length e.numbers) (sym (d.others c other)) (omega (arith, a.room c, length-set ks p y))
  ];
  top_words = λ c. elim (class_cases c class) [
    | inl same ↦ subst (λ e. (of_class new e).top_words ≤ 2) (sym same) (omega (arith, a.top_words class, d.top_words))
    | inr other ↦ subst (λ e. e.top_words ≤ 2) (sym (d.others c other)) (a.top_words c)
  ];
  few_top_words = λ c. elim (class_cases c class) [
    | inl same ↦ subst (λ e. (of_class new e).top_words ≤ 1 + length (set ks p y) / 64) (sym same) (rw (length-set) (omega (arith, a.few_top_words class, d.top_words)))
    | inr other ↦ subst (λ e. e.top_words ≤ 1 + length (set ks p y) / 64) (sym (d.others c other)) (rw (length-set) (a.few_top_words c))
  ];
}

-- the classes of which the judging is not one keep their sets
other_index : (ks : List KeptTasks) (ns : List ℕ) (class c : Class) (p : ℕ) (y : KeptTasks) → p < length ks → (kept_at ks p).class ≡ class → y.class ≡ class → c ≢ class → IsIndexOf c ks ns → IsIndexOf c (set ks p y) ns
other_index ks ns class c p y h e f n a =
    index_change c ks ns ns p y h a (λ i _. refl) (λ g _ _. absurd (n (sym g ∙ f))) (λ b. absurd (n (sym (a.class_is p b) ∙ e))) (λ b. absurd (n (sym (a.class_is p b) ∙ e)))

pub index_shown : (ks : List KeptTasks) (old new : Classes) (p k : ℕ) (y : KeptTasks) → p < length ks → IsIndexed ks old → (kept_at ks p).class ≡ y.class → bit y.shown k ≡ 1
    → IsInserted (of_class old y.class).numbers (of_class new y.class).numbers p → (of_class new y.class).top_words ≡ (of_class old y.class).top_words
    → ((c : Class) → c ≢ y.class → of_class new c ≡ of_class old c) → IsIndexed (set ks p y) new
index_shown ks old new p k y h a e b d t o =
    changed_index ks old new y.class p y a (record { others = o; size = d.size; top_words = t }) (λ c. elim (class_cases c y.class) [
      | inl same ↦ subst (λ z. IsIndexOf z (set ks p y) (of_class new z).numbers) (sym same) (index_change y.class ks (of_class old y.class).numbers (of_class new y.class).numbers p y h (a.each y.class) d.others (λ _ _ _. d.here) (λ _. refl) (λ _. (k, b)))
      | inr other ↦ subst (λ z. IsIndexOf c (set ks p y) z.numbers) (sym (o c other)) (other_index ks (of_class old c).numbers y.class c p y h e refl other (a.each c))
    ])

pub index_hidden : (ks : List KeptTasks) (old new : Classes) (p : ℕ) (y : KeptTasks) → p < length ks → IsIndexed ks old → (kept_at ks p).class ≡ y.class → IsEmpty y.shown
    → IsRemoved (of_class old y.class).numbers (of_class new y.class).numbers p → (of_class new y.class).top_words ≡ (of_class old y.class).top_words
    → ((c : Class) → c ≢ y.class → of_class new c ≡ of_class old c) → IsIndexed (set ks p y) new
index_hidden ks old new p y h a e none d t o =
    changed_index ks old new y.class p y a (record { others = o; size = d.size; top_words = t }) (λ c. elim (class_cases c y.class) [
      | inl same ↦ subst (λ z. IsIndexOf z (set ks p y) (of_class new z).numbers) (sym same) (index_change y.class ks (of_class old y.class).numbers (of_class new y.class).numbers p y h (a.each y.class) d.others (λ _ k b. absurd (zero_is_not_one (bit y.shown k) (none.none k) b)) (λ b. absurd (zero_is_not_one _ d.here b)) (λ b. absurd (zero_is_not_one _ d.here b)))
      | inr other ↦ subst (λ z. IsIndexOf c (set ks p y) z.numbers) (sym (o c other)) (other_index ks (of_class old c).numbers y.class c p y h e refl other (a.each c))
    ])

pub index_kept : (ks : List KeptTasks) (classes : Classes) (p k : ℕ) (y : KeptTasks) → p < length ks → IsIndexed ks classes → (kept_at ks p).class ≡ y.class → bit y.shown k ≡ 1
    → ((i : ℕ) → bit y.shown i ≡ 1 → bit (kept_at ks p).shown i ≡ 1) → IsIndexed (set ks p y) classes
index_kept ks classes p k y h a e b sub =
    changed_index ks classes classes y.class p y a (record { others = λ _ _. refl; size = refl; top_words = refl }) (λ c. elim (class_cases c y.class) [
      | inl same ↦ subst (λ z. IsIndexOf z (set ks p y) (of_class classes z).numbers) (sym same) (index_change y.class ks (of_class classes y.class).numbers (of_class classes y.class).numbers p y h (a.each y.class) (λ _ _. refl) (λ _ i u. (a.each y.class).listed p i h e (sub i u)) (λ _. refl) (λ _. (k, b)))
      | inr other ↦ other_index ks (of_class classes c).numbers y.class c p y h e refl other (a.each c)
    ])

-- a judging of which no task is shown changes to another such
pub index_unshown : (ks : List KeptTasks) (classes : Classes) (p : ℕ) (y : KeptTasks) → p < length ks → IsIndexed ks classes → ((k : ℕ) → bit y.shown k ≢ 1)
    → ((k : ℕ) → bit (kept_at ks p).shown k ≢ 1) → IsIndexed (set ks p y) classes
index_unshown ks classes p y h a after none =
    changed_index ks classes classes y.class p y a (record { others = λ _ _. refl; size = refl; top_words = refl }) (λ c.
    let ns = (of_class classes c).numbers in
    let out : bit ns p ≢ 1 = λ b. let u = (a.each c).some p b in none u.0 u.1 in
    index_change c ks ns ns p y h (a.each c) (λ _ _. refl) (λ _ k b. absurd (after k b)) (λ b. absurd (out b)) (λ b. absurd (out b)))

-- its class changes
pub index_classed : (ks : List KeptTasks) (classes : Classes) (p : ℕ) (y : KeptTasks) → p < length ks → IsIndexed ks classes → y.shown ≡ (kept_at ks p).shown
    → ((k : ℕ) → bit (kept_at ks p).shown k ≢ 1) → IsIndexed (set ks p y) classes
index_classed ks classes p y h a e none = index_unshown ks classes p y h a (λ k b. none k (ap (λ w. bit w k) (sym e) ∙ b)) none

-- ---- a judging is added

at_pushed : (ks : List KeptTasks) (y : KeptTasks) (i : ℕ) → i < length ks → kept_at (ks ++ y ∷ []) i ≡ kept_at ks i
at_pushed ks y i h = get_or_append_left ks (y ∷ []) no_tasks i h

pub sized_push : (ks : List KeptTasks) (y : KeptTasks) → AreSized ks → IsSized y → AreSized (ks ++ y ∷ [])
sized_push ks y s t = record {
  each = λ i l. elim (cases_lt i (length ks)) [
    | inl under ↦ subst IsSized (sym (at_pushed ks y i under)) (s.each i under)
    | inr past ↦ subst IsSized (sym (get_or_push ks y no_tasks i (omega (arith, l, past, length_push ks y)))) t
  ];
}

push_index : (c : Class) (ks : List KeptTasks) (ns ms : List ℕ) (y : KeptTasks) → IsEmpty y.shown → IsIndexOf c ks ns → ((i : ℕ) → bit ms i ≡ bit ns i) → IsIndexOf c (ks ++ y ∷ []) ms
push_index c ks ns ms y none a same = record {
  listed = λ i k l e b. elim (cases_lt i (length ks)) [
    | inl under ↦ same i ∙ a.listed i k under (subst (λ (x : KeptTasks). x.class ≡ c) (at_pushed ks y i under) e) (subst (λ (x : KeptTasks). bit x.shown k ≡ 1) (at_pushed ks y i under) b)
    | inr past ↦ absurd (zero_is_not_one (bit y.shown k) (none.none k) (subst (λ (x : KeptTasks). bit x.shown k ≡ 1) (get_or_push ks y no_tasks i (omega (arith, l, past, length_push ks y))) b))
  ];
  known = λ i b. let u = a.known i (sym (same i) ∙ b) in omega (arith, u, length_push ks y);
  class_is = λ i b. let u = a.known i (sym (same i) ∙ b) in subst (λ (x : KeptTasks). x.class ≡ c) (sym (at_pushed ks y i u)) (a.class_is i (sym (same i) ∙ b));
  some = λ i b. let u = a.known i (sym (same i) ∙ b) in subst (λ (x : KeptTasks). (k : ℕ) × (bit x.shown k ≡ 1)) (sym (at_pushed ks y i u)) (a.some i (sym (same i) ∙ b));
}

pub index_push : (ks : List KeptTasks) (old new : Classes) (y : KeptTasks) → length ks < 400000 → IsEmpty y.shown → IsIndexed ks old → IsReserved old new (length ks) → HasRoom new (length ks + 1) → IsIndexed (ks ++ y ∷ []) new
index_push ks old new y few none a d r = record {
  each = λ c. push_index c ks (of_class old c).numbers (of_class new c).numbers y none (a.each c) (d.same c);
  room = λ c. omega (arith, length_push ks y, r.room c);
  top_words = λ c. omega (arith, a.top_words c, d.top_words c);
  few_top_words = λ c. rw (length_push) (omega (arith, a.few_top_words c, d.top_words c));
}

-- ---- no judgings

pub sized_none : AreSized []
sized_none = record { each = λ i l. absurd (omega arith) }

pub index_none : (classes : Classes) → ((c : Class) → of_class classes c ≡ record { numbers = []; top_words = 0 }) → IsIndexed [] classes
index_none classes e = record {
  each = λ c. subst (λ z. IsIndexOf c [] z.numbers) (sym (e c)) (record {
    listed = λ i k l _ _. absurd (omega arith);
    known = λ i b. absurd (zero_is_not_one (bit [] i) (none_in [] i (get_or_past [] (i / 64) 0 (omega arith))) b);
    class_is = λ i b. absurd (zero_is_not_one (bit [] i) (none_in [] i (get_or_past [] (i / 64) 0 (omega arith))) b);
    some = λ i b. absurd (zero_is_not_one (bit [] i) (none_in [] i (get_or_past [] (i / 64) 0 (omega arith))) b);
  });
  room = λ c. omega arith;
  top_words = λ c. subst (λ z. z.top_words ≤ 2) (sym (e c)) (omega arith);
  few_top_words = λ c. subst (λ z. z.top_words ≤ 1 + 0 / 64) (sym (e c)) (omega arith);
}
