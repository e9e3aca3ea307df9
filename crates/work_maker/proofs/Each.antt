-- What holds of each item of a list, and what a list contains.
use Rattle.std.proofs.Common.{ℕ, zero, suc, ◌≡◌, ◌<◌, ◌≤◌, List, [], ◌∷◌, ◌++◌, Bool, true, false, cond, ◌&&◌, length, map, filter, filter_map, Option, Some, None, Contains, refl, sym, ap, subst, arith, inl, inr}
use Rattle.std.specs.Prelude.{⊤, ◌⊎◌}
use Rattle.std.specs.List.{flat_map, cons_option}
use Rattle.package_folder.proofs.Members.{first_in, later_in, first_or_later, none_in}

abbrev pub Each : {X : Type 0} → (X → Type 0) → List X → Type 0
Each P [] = ⊤
Each P (x ∷ xs) = P x × Each P xs

pub each_at : {X : Type 0} (P : X → Type 0) (xs : List X) (x : X) → Each P xs → Contains xs x → P x
each_at P [] x each has = absurd (none_in x has)
each_at P (y ∷ xs) x each has =
    elim (first_or_later y x xs has) [
      | inl e ↦ subst P e each.0
      | inr later ↦ each_at P xs x each.1 later
    ]

pub each_of : {X : Type 0} (P : X → Type 0) (xs : List X) → ((x : X) → Contains xs x → P x) → Each P xs
each_of P [] h = tt
each_of P (x ∷ xs) h = (h x (first_in x xs), each_of P xs (λ y has. h y (later_in x y xs has)))

pub each_weaker : {X : Type 0} (P Q : X → Type 0) (xs : List X) → ((x : X) → P x → Q x) → Each P xs → Each Q xs
each_weaker P Q [] h each = tt
each_weaker P Q (x ∷ xs) h each = (h x each.0, each_weaker P Q xs h each.1)

pub each_both : {X : Type 0} (P : X → Type 0) (xs ys : List X) → Each P xs → Each P ys → Each P (xs ++ ys)
each_both P [] ys a b = b
each_both P (x ∷ xs) ys a b = (a.0, each_both P xs ys a.1 b)

pub each_flat : {X Y : Type 0} (P : X → Type 0) (Q : Y → Type 0) (f : X → List Y) (xs : List X) → ((x : X) → P x → Each Q (f x)) → Each P xs → Each Q (flat_map f xs)
each_flat P Q f [] h each = tt
each_flat P Q f (x ∷ xs) h each = each_both Q (f x) (flat_map f xs) (h x each.0) (each_flat P Q f xs h each.1)

-- ---- what a list contains

pub in_front : {X : Type 0} (xs ys : List X) (x : X) → Contains xs x → Contains (xs ++ ys) x
in_front [] ys x h = absurd (none_in x h)
in_front (y ∷ xs) ys x h =
    elim (first_or_later y x xs h) [
      | inl e ↦ subst (λ z. Contains (y ∷ (xs ++ ys)) z) e (first_in y (xs ++ ys))
      | inr later ↦ later_in y x (xs ++ ys) (in_front xs ys x later)
    ]

pub in_back : {X : Type 0} (xs ys : List X) (x : X) → Contains ys x → Contains (xs ++ ys) x
in_back [] ys x h = h
in_back (y ∷ xs) ys x h = later_in y x (xs ++ ys) (in_back xs ys x h)

-- ---- how long lists are

kept_by : {X : Type 0} (b : Bool) (x : X) (kept xs : List X) → length kept ≤ length xs → length (cond b (x ∷ kept) kept) ≤ length (x ∷ xs)
kept_by true x kept xs h = omega (arith, h)
kept_by false x kept xs h = omega (arith, h)

pub filtered_shorter : {X : Type 0} (p : X → Bool) (xs : List X) → length (filter p xs) ≤ length xs
filtered_shorter p [] = omega arith
filtered_shorter p (x ∷ xs) = kept_by (p x) x (filter p xs) xs (filtered_shorter p xs)

pub mapped_length : {X Y : Type 0} (f : X → Y) (xs : List X) → length (map f xs) ≡ length xs
mapped_length f [] = refl
mapped_length f (x ∷ xs) = ap suc (mapped_length f xs)

found_by : {X Y : Type 0} (o : Option Y) (ys : List Y) (xs : List X) (x : X) → length ys ≤ length xs → length (cons_option o ys) ≤ length (x ∷ xs)
found_by None ys xs x h = omega (arith, h)
found_by (Some y) ys xs x h = omega (arith, h)

pub found_shorter : {X Y : Type 0} (f : X → Option Y) (xs : List X) → length (filter_map f xs) ≤ length xs
found_shorter f [] = omega arith
found_shorter f (x ∷ xs) = found_by (f x) (filter_map f xs) xs x (found_shorter f xs)

-- ---- finite tests

-- the test passes at each number below this one
abbrev pub passes_below : (ℕ → Bool) → ℕ → Bool
passes_below p zero = true
passes_below p (suc n) = p n && passes_below p n

pub both : (a b : Bool) → (a && b) ≡ true → (a ≡ true) × (b ≡ true)
both true b e = (refl, e)
both false b e = cc

pub passes_at : (p : ℕ → Bool) (n i : ℕ) → passes_below p n ≡ true → i < n → p i ≡ true
passes_at p zero i e lt = absurd (omega (arith, lt))
passes_at p (suc n) i e lt =
    let h = both (p n) (passes_below p n) e in
    elim (same_or_less n i lt) [
      | inl is ↦ subst (λ k. p k ≡ true) (sym is) h.0
      | inr less ↦ passes_at p n i h.1 less
    ]
  where
    same_or_less : (n i : ℕ) → i < suc n → (i ≡ n) ⊎ (i < n)
    same_or_less zero zero lt = inl refl
    same_or_less zero (suc i) lt = absurd (omega (arith, lt))
    same_or_less (suc n) zero lt = inr (omega arith)
    same_or_less (suc n) (suc i) lt = elim (same_or_less n i (omega (arith, lt))) [ inl e ↦ inl (ap suc e) | inr h ↦ inr (omega (arith, h)) ]
