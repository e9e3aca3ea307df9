-- Tests at a place of a list, and the first place that passes one.
use Rattle.std.proofs.Common.{ℕ, suc, zero, ◌≡◌, ◌≢◌, ◌+◌, List, [], ◌∷◌, ◌++◌, Some, None, Bool, true, false, not, cond, refl, sym, ap, ◌∙◌, arith, length, set, ltb, inl, inr}
use Rattle.std.proofs.lemmas.Bool.{cases_lt, lt-ltb, le-ltb}
use Rattle.std.specs.List.{slice_get, position, position_or_len}
use Rattle.std.specs.Option.{option_map, option_map_or}

-- whether the item at the place passes, where there is one
abbrev pub passes : {X : Type 0} → (X → Bool) → List X → ℕ → Bool
passes p xs i = option_map_or p (slice_get xs i) false

pub passes_before : {X : Type 0} (p : X → Bool) (xs : List X) (x : X) (i : ℕ) → i ≢ length xs → passes p (xs ++ x ∷ []) i ≡ passes p xs i
passes_before p [] x zero h = absurd (h refl)
passes_before p [] x (suc i) h = refl
passes_before p (y ∷ xs) x zero h = refl
passes_before p (y ∷ xs) x (suc i) h = passes_before p xs x i (λ e. h (ap suc e))

pub passes_still : {X : Type 0} (p : X → Bool) (xs : List X) (x : X) (i : ℕ) → passes p xs i ≡ true → passes p (xs ++ x ∷ []) i ≡ true
passes_still p [] x i h = cc
passes_still p (y ∷ xs) x zero h = h
passes_still p (y ∷ xs) x (suc i) h = passes_still p xs x i h

pub passes_last : {X : Type 0} (p : X → Bool) (xs : List X) (x : X) → passes p (xs ++ x ∷ []) (length xs) ≡ p x
passes_last p [] x = refl
passes_last p (y ∷ xs) x = passes_last p xs x

pub passes_set_same : {X : Type 0} (p : X → Bool) (xs : List X) (i : ℕ) (x y : X) → slice_get xs i ≡ Some x → passes p (set xs i y) i ≡ p y
passes_set_same p [] i x y h = cc
passes_set_same p (z ∷ xs) zero x y h = refl
passes_set_same p (z ∷ xs) (suc i) x y h = passes_set_same p xs i x y h

pub passes_set_other : {X : Type 0} (p : X → Bool) (xs : List X) (i j : ℕ) (y : X) → j ≢ i → passes p (set xs i y) j ≡ passes p xs j
passes_set_other p [] i j y h = refl
passes_set_other p (z ∷ xs) zero zero y h = absurd (h refl)
passes_set_other p (z ∷ xs) zero (suc j) y h = refl
passes_set_other p (z ∷ xs) (suc i) zero y h = refl
passes_set_other p (z ∷ xs) (suc i) (suc j) y h = passes_set_other p xs i j y (λ e. h (ap suc e))

ltb_suc : (n l : ℕ) → ltb (1 + n) (suc l) ≡ ltb n l
ltb_suc n l = elim (cases_lt n l) [
  | inl a ↦ lt-ltb (1 + n) (suc l) (omega arith) ∙ sym (lt-ltb n l a)
  | inr b ↦ le-ltb (1 + n) (suc l) (omega arith) ∙ sym (le-ltb n l b)
]

-- the first place that passes, seen from the first item on
pub position_cons : {X : Type 0} (p : X → Bool) (x : X) (xs : List X) → position p (x ∷ xs) ≡ cond (p x) (Some 0) (option_map (λ i. 1 + i) (position p xs))
position_cons {X} p x xs =
    let n = position_or_len p xs in
    let rest : (t : Bool) → cond t (Some (1 + n)) None ≡ option_map (λ i. 1 + i) (cond t (Some n) None)
    = λ t. elim t as (λ t. cond t (Some (1 + n)) None ≡ option_map (λ i. 1 + i) (cond t (Some n) None)) [ true ↦ refl | false ↦ refl ] in
    elim (p x) as (λ t. cond (ltb (cond (not t) (1 + n) 0) (length (x ∷ xs))) (Some (cond (not t) (1 + n) 0)) None ≡ cond t (Some 0) (option_map (λ i. 1 + i) (cond (ltb n (length xs)) (Some n) None))) [
      | true ↦ ap (λ t. cond t (Some 0) None) (lt-ltb 0 (suc (length xs)) (omega arith))
      | false ↦ ap (λ t. cond t (Some (1 + n)) None) (ltb_suc n (length xs)) ∙ rest (ltb n (length xs))
    ]

-- there is none
pub none_passes : {X : Type 0} (p : X → Bool) (xs : List X) → ((i : ℕ) → passes p xs i ≢ true) → position p xs ≡ None
none_passes p [] h = refl
none_passes p (x ∷ xs) h =
    position_cons p x xs ∙ (elim (p x) as (λ t. t ≢ true → cond t (Some 0) (option_map (λ i. 1 + i) (position p xs)) ≡ None) [
      | true ↦ λ k. absurd (k refl)
      | false ↦ λ k. ap (option_map (λ i. 1 + i)) (none_passes p xs (λ i. h (suc i)))
    ] (h zero))

-- there is one alone
pub one_passes : {X : Type 0} (p : X → Bool) (xs : List X) (j : ℕ) → passes p xs j ≡ true → ((i : ℕ) → passes p xs i ≡ true → i ≡ j) → position p xs ≡ Some j
one_passes p [] j h one = cc
one_passes p (x ∷ xs) zero h one = position_cons p x xs ∙ ap (λ t. cond t (Some 0) (option_map (λ i. 1 + i) (position p xs))) h
one_passes p (x ∷ xs) (suc j) h one =
    position_cons p x xs ∙ (elim (p x) as (λ t. (t ≡ true → zero ≡ suc j) → cond t (Some 0) (option_map (λ i. 1 + i) (position p xs)) ≡ Some (suc j)) [
      | true ↦ λ k. let e = k refl in absurd (omega arith)
      | false ↦ λ k. ap (option_map (λ i. 1 + i)) (one_passes p xs j h (λ i t. let e = one (suc i) t in omega arith)) ∙ ap Some (omega arith)
    ] (one zero))
