-- How the first submission that stood earlier in a list is found, without a look at all that stand before it.
use Rattle.std.proofs.Common.{ℕ, ◌≡◌, ◌≢◌, ◌+◌, ◌-◌, ◌<◌, List, [], ◌∷◌, Some, Bool, true, false, cond, refl, sym, ap, ◌∙◌, subst, arith, length, drop, get_or, set, eqb, inl, inr}
use Rattle.std.specs.List.{list_any}
use Rattle.std.proofs.lemmas.Bool.{eqb-true, eq-eqb, or_cases, or_left, or_right, cases_order, false_from_ne_true}
use Rattle.std.proofs.lemmas.List.{at_drop_more, get_or-set_same, get_or-set_other}
use Rattle.farm_model.specs.Rejudgings.{first_twice_after, first_twice}
use Rattle.rejudge_book.specs.Refusals.{AreKnown}

-- the list has the submission
abbrev pub has : List ℕ → ℕ → Bool
has list m = list_any (λ n. eqb n m) list

-- The list before `at` has no submission twice, and the place of each of its submissions is written.
pub record IsSeen (list places : List ℕ) (at : ℕ) : Type 0 where
  -- the submissions before `at`, the last one first
  pub earlier : List ℕ
  pub rest : first_twice_after earlier (drop at list) ≡ first_twice list
  pub among : (m : ℕ) → has earlier m ≡ true → (k : ℕ) × (k < at) × (get_or list k 0 ≡ m)
  pub there : (k : ℕ) → k < at → has earlier (get_or list k 0) ≡ true
  pub written : (k : ℕ) → k < at → get_or places (get_or list k 0 - 1) 0 ≡ k

-- one step of the search
step : (list earlier : List ℕ) (at : ℕ) → at < length list → first_twice_after earlier (drop at list) ≡ cond (has earlier (get_or list at 0)) (Some (get_or list at 0)) (first_twice_after (get_or list at 0 ∷ earlier) (drop (at + 1) list))
step list earlier at l = at_drop_more (first_twice_after earlier) list at 0 l

-- where the list has the submission at the place that is written, before this one, it is the first that stood earlier
pub found : (list places : List ℕ) (at e : ℕ) → IsSeen list places at → at < length list → e < at → get_or list e 0 ≡ get_or list at 0 → Some (get_or list at 0) ≡ first_twice list
found list places at e h l before same =
    let there : has h.earlier (get_or list at 0) ≡ true = subst (λ (m : ℕ). has h.earlier m ≡ true) same (h.there e before) in
    sym (ap (λ t. cond t (Some (get_or list at 0)) (first_twice_after (get_or list at 0 ∷ h.earlier) (drop (at + 1) list))) there) ∙ (sym (step list h.earlier at l) ∙ h.rest)

-- the place that is written does not have the submission before this one
abbrev pub IsNew : List ℕ → List ℕ → ℕ → Type 0
IsNew list places at = get_or places (get_or list at 0 - 1) 0 < at → get_or list (get_or places (get_or list at 0 - 1) 0) 0 ≢ get_or list at 0

new : (list places : List ℕ) (at : ℕ) (h : IsSeen list places at) → IsNew list places at → has h.earlier (get_or list at 0) ≡ false
new list places at h fresh =
    false_from_ne_true (has h.earlier (get_or list at 0)) (λ t.
    let k = h.among (get_or list at 0) t in
    let is : get_or places (get_or list at 0 - 1) 0 ≡ k.0 = sym (ap (λ (m : ℕ). get_or places (m - 1) 0) k.2) ∙ h.written k.0 k.1 in
    fresh (omega (arith, is, k.1)) (ap (λ (p : ℕ). get_or list p 0) is ∙ k.2))

pub seen_more : (list places : List ℕ) (at : ℕ) → IsSeen list places at → at < length list → AreKnown (length places) list → IsNew list places at → IsSeen list (set places (get_or list at 0 - 1) at) (at + 1)
seen_more list places at h l known fresh =
    let m = get_or list at 0 in
    let none = new list places at h fresh in
    let own = known at 0 l in
    let here : get_or (set places (m - 1) at) (m - 1) 0 ≡ at = get_or-set_same places (m - 1) at 0 (omega (arith, own.numbered, own.within)) in
    let same : has (m ∷ h.earlier) m ≡ true = or_left (eqb m m) (has h.earlier m) (eq-eqb m m refl) in
    let apart : (k : ℕ) → k < at → get_or list k 0 - 1 ≢ m - 1
    = λ k b e.
    let other = known k 0 (omega arith) in
    let is : get_or list k 0 ≡ m = omega (arith, e, other.numbered, own.numbered) in
    let t : has h.earlier m ≡ true = subst (λ (x : ℕ). has h.earlier x ≡ true) is (h.there k b) in
    cc in
    record {
      earlier = m ∷ h.earlier;
      rest = sym (ap (λ t. cond t (Some m) (first_twice_after (m ∷ h.earlier) (drop (at + 1) list))) none) ∙ (sym (step list h.earlier at l) ∙ h.rest);
      among = λ x t. elim (or_cases (eqb m x) (has h.earlier x) t) [
        | inl e ↦ (at, omega arith, eqb-true m x e)
        | inr e ↦ let k = h.among x e in (k.0, omega (arith, k.1), k.2)
      ];
      there = λ k b. elim (cases_order k at) [
        | inl e ↦ subst (λ (p : ℕ). has (m ∷ h.earlier) (get_or list p 0) ≡ true) (sym e) same
        | inr o ↦ elim o [
          | inl b' ↦ or_right (eqb m (get_or list k 0)) (has h.earlier (get_or list k 0)) (h.there k b')
          | inr b' ↦ absurd (omega arith)
        ]
      ];
      written = λ k b. elim (cases_order k at) [
        | inl e ↦ subst (λ (p : ℕ). get_or (set places (m - 1) at) (get_or list p 0 - 1) 0 ≡ p) (sym e) here
        | inr o ↦ elim o [
          | inl b' ↦ get_or-set_other places (m - 1) (get_or list k 0 - 1) at 0 (apart k b') ∙ h.written k b'
          | inr b' ↦ absurd (omega arith)
        ]
      ];
    }
