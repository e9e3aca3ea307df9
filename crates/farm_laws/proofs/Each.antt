-- What each item of a list meets.
use Rattle.std.proofs.Common.{ℕ, zero, suc, ◌≡◌, ◌+◌, ◌<◌, List, [], ◌∷◌, ◌++◌, Some, Bool, true, false, cond, refl, subst, arith, map, slice_get}
use Rattle.std.specs.Prelude.{All}
use Rattle.std.proofs.lemmas.List.Elements.{All-nil, All-cons}
use Rattle.std.specs.List.{filter, flat_map, enumerate_from, range_with_len}

abbrev pub Each : {X : Type 0} → (X → Type 0) → List X → Type 0
Each P [] = Unit {0}
Each P (x ∷ xs) = P x × Each P xs

pub each_first : {X : Type 0} (P : X → Type 0) (xs : List X) (x : X) → Each P xs → slice_get xs 0 ≡ Some x → P x
each_first P [] x h e = cc
each_first P (y ∷ xs) x h e = let same : y ≡ x = cc in subst P same h.0

pub each_append : {X : Type 0} (P : X → Type 0) (xs ys : List X) → Each P xs → Each P ys → Each P (xs ++ ys)
each_append P [] ys h k = k
each_append P (x ∷ xs) ys h k = (h.0, each_append P xs ys h.1 k)

pub each_map : {X Y : Type 0} (P : X → Type 0) (Q : Y → Type 0) (f : X → Y) → ((x : X) → P x → Q (f x)) → (xs : List X) → Each P xs → Each Q (map f xs)
each_map P Q f turn [] h = tt
each_map P Q f turn (x ∷ xs) h = (turn x h.0, each_map P Q f turn xs h.1)

pub each_turned : {X : Type 0} (P Q : X → Type 0) → ((x : X) → P x → Q x) → (xs : List X) → Each P xs → Each Q xs
each_turned P Q turn [] h = tt
each_turned P Q turn (x ∷ xs) h = (turn x h.0, each_turned P Q turn xs h.1)

pub each_all : {X : Type 0} (P : X → Type 0) (xs : List X) → Each P xs → All P xs
each_all P [] h = All-nil P
each_all P (x ∷ xs) h = All-cons P x xs h.0 (each_all P xs h.1)

pub each_flat_map : {X Y : Type 0} (P : X → Type 0) (Q : Y → Type 0) (f : X → List Y) → ((x : X) → P x → Each Q (f x)) → (xs : List X) → Each P xs → Each Q (flat_map f xs)
each_flat_map P Q f turn [] h = tt
each_flat_map P Q f turn (x ∷ xs) h = each_append Q (f x) (flat_map f xs) (turn x h.0) (each_flat_map P Q f turn xs h.1)

-- what passes a test
pub each_filter : {X : Type 0} (P Q : X → Type 0) (p : X → Bool) → ((x : X) → P x → p x ≡ true → Q x) → (xs : List X) → Each P xs → Each Q (filter p xs)
each_filter P Q p turn [] h = tt
each_filter P Q p turn (x ∷ xs) h = elim (p x) as (λ b. p x ≡ b → Each Q (cond b (x ∷ filter p xs) (filter p xs))) [
  | true ↦ λ e. (turn x h.0 e, each_filter P Q p turn xs h.1)
  | false ↦ λ e. each_filter P Q p turn xs h.1
] refl

pub each_kept : {X : Type 0} (P : X → Type 0) (p : X → Bool) (xs : List X) → Each P xs → Each P (filter p xs)
each_kept P p xs h = each_filter P P p (λ x k e. k) xs h

pub each_range : (P : ℕ → Type 0) (a n : ℕ) → ((i : ℕ) → i < n → P (a + i)) → Each P (range_with_len a n)
each_range P a zero h = tt
each_range P a (suc n) h =
    let start : a + 0 ≡ a = omega arith in
    (subst P start (h 0 (omega arith)), each_range P (a + 1) n (λ i lt. let next : a + suc i ≡ a + 1 + i = omega arith in subst P next (h (suc i) (omega arith))))

pub each_numbered : {X : Type 0} (P : ℕ → X → Type 0) (xs : List X) (a : ℕ) → ((i : ℕ) (x : X) → slice_get xs i ≡ Some x → P (a + i) x) → Each (λ p. P p.0 p.1) (enumerate_from a xs)
each_numbered P [] a h = tt
each_numbered P (x ∷ xs) a h =
    let start : a + 0 ≡ a = omega arith in (
      subst (λ (n : ℕ). P n x) start (h 0 x refl),
      each_numbered P xs (a + 1) (λ i y e. let next : a + suc i ≡ a + 1 + i = omega arith in subst (λ (n : ℕ). P n y) next (h (suc i) y e)),
    )
