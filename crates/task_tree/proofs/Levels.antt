-- A set in levels of words that changes.
use Rattle.std.proofs.Common.{ℕ, ◌≡◌, ◌≢◌, ◌*◌, ◌/◌, ◌%◌, ◌<◌, ◌≤◌, List, [], length, sym, ap, ◌∙◌, arith, inl, inr, subst}
use Rattle.std.specs.Int.{bit_at}
use Rattle.std.proofs.lemmas.Bool.{cases_eq, cases_lt}
use Rattle.std.proofs.lemmas.List.{get_or_past}
use Rattle.task_tree.specs.Bits.{word, bit, IsInserted, IsRemoved, IsLeast, IsLeastAt, IsEmpty}
use Rattle.task_tree.specs.Numbers.{IsAbove, IsLeveled}
use Rattle.task_tree.proofs.Bitwise.{none_in}

one_is_not_zero : (n : ℕ) → n ≡ 1 → n ≡ 0 → ⊥
one_is_not_zero n a b = omega arith

above_insert : (m l n k : List ℕ) (i : ℕ) → IsAbove m l → IsInserted l k i → IsInserted m n (i / 64) → IsAbove n k
above_insert m l n k i a d u = record {
  zero = λ p z. elim (cases_eq p (i / 64)) [
    | inl same ↦ absurd (one_is_not_zero (bit n (i / 64)) u.here (subst (λ q. bit n q ≡ 0) same z))
    | inr other ↦ d.words p other ∙ a.zero p (sym (u.others p other) ∙ z)
  ];
  some = λ p z. elim (cases_eq p (i / 64)) [
    | inl same ↦ absurd (one_is_not_zero (bit k i) d.here (none_in k i (subst (λ q. word k q ≡ 0) same z)))
    | inr other ↦ u.others p other ∙ a.some p (sym (d.words p other) ∙ z)
  ];
  size = omega (arith, a.size, d.size, u.size);
}

above_kept : (m l k : List ℕ) (i : ℕ) → IsAbove m l → IsRemoved l k i → word k (i / 64) ≢ 0 → IsAbove m k
above_kept m l k i a d some = record {
  zero = λ p z. elim (cases_eq p (i / 64)) [
    | inl same ↦ ap (word k) same ∙ d.zero (ap (word l) (sym same) ∙ a.zero p z)
    | inr other ↦ d.words p other ∙ a.zero p z
  ];
  some = λ p z. elim (cases_eq p (i / 64)) [
    | inl same ↦ absurd (some (ap (word k) (sym same) ∙ z))
    | inr other ↦ a.some p (sym (d.words p other) ∙ z)
  ];
  size = omega (arith, a.size, d.size);
}

above_remove : (m l n k : List ℕ) (i : ℕ) → IsAbove m l → IsRemoved l k i → word k (i / 64) ≡ 0 → IsRemoved m n (i / 64) → IsAbove n k
above_remove m l n k i a d empty u = record {
  zero = λ p z. elim (cases_eq p (i / 64)) [
    | inl same ↦ ap (word k) same ∙ empty
    | inr other ↦ d.words p other ∙ a.zero p (sym (u.others p other) ∙ z)
  ];
  some = λ p z. elim (cases_eq p (i / 64)) [
    | inl same ↦ ap (bit n) same ∙ u.here
    | inr other ↦ u.others p other ∙ a.some p (sym (d.words p other) ∙ z)
  ];
  size = omega (arith, a.size, d.size, u.size);
}

-- the same numbers are in where the words are the same
pub same_bits : (old new : List ℕ) → ((p : ℕ) → word new p ≡ word old p) → (i : ℕ) → bit new i ≡ bit old i
unfolding bit
same_bits old new e i = ap (λ w. bit_at w (i % 64)) (e (i / 64))

above_same : (m l n k : List ℕ) → IsAbove m l → ((p : ℕ) → word k p ≡ word l p) → ((p : ℕ) → word n p ≡ word m p) → length k ≤ 64 * length n → IsAbove n k
above_same m l n k a e f s = record {
  zero = λ p z. e p ∙ a.zero p (sym (same_bits m n f p) ∙ z);
  some = λ p z. same_bits m n f p ∙ a.some p (sym (e p) ∙ z);
  size = s;
}

pub leveled_insert : (l m t k n u : List ℕ) (i : ℕ) → IsLeveled l m t → IsInserted l k i → IsInserted m n (i / 64) → IsInserted t u (i / 64 / 64) → IsLeveled k n u
leveled_insert l m t k n u i a x y z = record { lower = above_insert m l n k i a.lower x y; upper = above_insert t m u n (i / 64) a.upper y z }

pub leveled_same : (l m t k n u : List ℕ) → IsLeveled l m t → ((p : ℕ) → word k p ≡ word l p) → ((p : ℕ) → word n p ≡ word m p) → ((p : ℕ) → word u p ≡ word t p) → length k ≤ 64 * length n → length n ≤ 64 * length u → IsLeveled k n u
leveled_same l m t k n u a e f g r s = record { lower = above_same m l n k a.lower e f r; upper = above_same t m u n a.upper f g s }

-- ---- the least number

pub least_below : (u l : List ℕ) (b c : ℕ) → IsAbove u l → IsLeast u b → IsLeastAt l b c → IsLeast l c
least_below u l b c a h k = record {
  here = k.here;
  before = λ i lt. elim (cases_eq (i / 64) b) [
    | inl same ↦ k.before i same lt
    | inr other ↦ none_in l i (a.zero (i / 64) (h.before (i / 64) (let q = k.place_is in omega arith)))
  ];
}

pub empty_below : (u l : List ℕ) → IsAbove u l → IsEmpty u → IsEmpty l
empty_below u l a e = record { none = λ i. none_in l i (a.zero (i / 64) (e.none (i / 64))) }

-- a word that is not 0 is there
pub there : (words : List ℕ) (p : ℕ) → word words p ≢ 0 → p < length words
there words p some = elim (cases_lt p (length words)) [
  | inl under ↦ under
  | inr past ↦ absurd (some (get_or_past words p 0 past))
]

pub some_below : (u l : List ℕ) (p : ℕ) → IsAbove u l → bit u p ≡ 1 → word l p ≢ 0
some_below u l p a e z = one_is_not_zero (bit u p) e (a.some p z)

no_bits : (p : ℕ) → bit [] p ≡ 0
no_bits p = none_in [] p (get_or_past [] (p / 64) 0 (omega arith))

above_none : IsAbove [] []
above_none = record {
  zero = λ p z. get_or_past [] p 0 (omega arith);
  some = λ p z. no_bits p;
  size = omega arith;
}

pub leveled_none : IsLeveled [] [] []
leveled_none = record { lower = above_none; upper = above_none }
