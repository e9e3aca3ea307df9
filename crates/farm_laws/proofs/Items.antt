-- Lists whose items are numbered from 1.
use Rattle.std.proofs.Common.{ℕ, zero, suc, ◌≡◌, ◌≢◌, ◌+◌, ◌-◌, ◌<◌, List, [], ◌∷◌, ◌++◌, Option, Some, None, Bool, true, false, cond, ltb, refl, ap, ◌∙◌, arith, length, map, set, slice_get}
use Rattle.std.specs.Option.{IsSome, option_map}
use Rattle.std.specs.List.{range_with_len}
use Rattle.std.proofs.lemmas.Option.{slice_get-map}
use Rattle.std.proofs.lemmas.Bool.Decides.{nat_tests}
use Rattle.farm_model.specs.Numbered.{item_of, change_item, with_change}

pub there : {X : Type 0} (o : Option X) → IsSome o → (x : X) × (o ≡ Some x)
there None h = cc
there (Some x) h = (x, refl)

pub item_at : {X : Type 0} (xs : List X) (n : ℕ) (x : X) → item_of xs n ≡ Some x → (0 < n) × (slice_get xs (n - 1) ≡ Some x)
item_at xs zero x h = cc
item_at xs (suc n) x h = (omega arith, grind (arith, nat_tests, h))

pub item_by : {X : Type 0} (xs : List X) (n : ℕ) (x : X) → 0 < n → slice_get xs (n - 1) ≡ Some x → item_of xs n ≡ Some x
item_by xs n x l h = grind (arith, nat_tests, h, l)

-- an item is another one only where its number is
set_other : {X : Type 0} (xs : List X) (i j : ℕ) (y : X) → i ≢ j → slice_get (set xs i y) j ≡ slice_get xs j
set_other [] i j y n = refl
set_other (x ∷ xs) zero zero y n = absurd (n refl)
set_other (x ∷ xs) zero (suc j) y n = refl
set_other (x ∷ xs) (suc i) zero y n = refl
set_other (x ∷ xs) (suc i) (suc j) y n = set_other xs i j y (λ e. n (ap (λ k. suc k) e))

set_same : {X : Type 0} (xs : List X) (i : ℕ) (x y : X) → slice_get xs i ≡ Some x → slice_get (set xs i y) i ≡ Some y
set_same [] i x y h = cc
set_same (z ∷ xs) zero x y h = refl
set_same (z ∷ xs) (suc i) x y h = set_same xs i x y h

pub with_same : {X : Type 0} (xs : List X) (n : ℕ) (x y : X) → item_of xs n ≡ Some x → item_of (set xs (n - 1) y) n ≡ Some y
with_same xs n x y h = let a = item_at xs n x h in item_by (set xs (n - 1) y) n y a.0 (set_same xs (n - 1) x y a.1)

pub with_other : {X : Type 0} (xs : List X) (n m : ℕ) (y : X) → 0 < n → n ≢ m → item_of (set xs (n - 1) y) m ≡ item_of xs m
with_other xs n zero y l ne = refl
with_other xs n (suc m) y l ne = ap (λ (o : Option _). cond (ltb 0 (suc m)) o None) (set_other xs (n - 1) (suc m - 1) y (λ e. ne (omega arith)))

pub change_same : {X : Type 0} (xs : List X) (n : ℕ) (f : X → X) (x : X) → item_of xs n ≡ Some x → item_of (with_change xs n f) n ≡ Some (f x)
change_same xs n f x h = ap (λ o. item_of (change_item xs n f o) n) h ∙ with_same xs n x (f x) h

change_at : {X : Type 0} (xs : List X) (n m : ℕ) (f : X → X) → n ≢ m → (o : Option X) → item_of xs n ≡ o → item_of (change_item xs n f o) m ≡ item_of xs m
change_at xs n m f ne None e = refl
change_at xs n m f ne (Some x) e = with_other xs n m (f x) (item_at xs n x e).0 ne

pub change_other : {X : Type 0} (xs : List X) (n m : ℕ) (f : X → X) → n ≢ m → item_of (with_change xs n f) m ≡ item_of xs m
change_other xs n m f ne = change_at xs n m f ne (item_of xs n) refl

prefix_item : {X : Type 0} (xs ys : List X) (i : ℕ) (x : X) → slice_get xs i ≡ Some x → slice_get (xs ++ ys) i ≡ Some x
prefix_item [] ys i x h = cc
prefix_item (z ∷ xs) ys zero x h = h
prefix_item (z ∷ xs) ys (suc i) x h = prefix_item xs ys i x h

pub item_append : {X : Type 0} (xs ys : List X) (n : ℕ) (x : X) → item_of xs n ≡ Some x → item_of (xs ++ ys) n ≡ Some x
item_append xs ys n x h = let a = item_at xs n x h in item_by (xs ++ ys) n x a.0 (prefix_item xs ys (n - 1) x a.1)

seen_in : {X Y : Type 0} (view : X → Y) (b : Bool) (o : Option X) → cond b (option_map view o) None ≡ option_map view (cond b o None)
seen_in view true o = refl
seen_in view false o = refl

-- the item of a number, as it is seen
pub item_seen : {X Y : Type 0} (view : X → Y) (xs : List X) (n : ℕ) → item_of (map view xs) n ≡ option_map view (item_of xs n)
item_seen view xs n = ap (λ (o : Option _). cond (ltb 0 n) o None) (slice_get-map view xs (n - 1)) ∙ seen_in view (ltb 0 n) (slice_get xs (n - 1))

-- the numbers from a on, each as what the item of its place is
pub numbered_from : {X : Type 0} (xs : List X) (a : ℕ) (f : ℕ → X) → ((i : ℕ) (x : X) → slice_get xs i ≡ Some x → f (a + i) ≡ x) → map f (range_with_len a (length xs)) ≡ xs
numbered_from [] a f h = refl
numbered_from (x ∷ xs) a f h =
    let here : f a ≡ x = ap f (omega arith) ∙ h zero x refl in
    let rest : map f (range_with_len (a + 1) (length xs)) ≡ xs = numbered_from xs (a + 1) f (λ i y e. ap f (omega arith) ∙ h (suc i) y e) in
    ap (λ y. y ∷ map f (range_with_len (a + 1) (length xs))) here ∙ ap (λ ys. x ∷ ys) rest
