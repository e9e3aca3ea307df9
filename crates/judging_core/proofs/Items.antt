-- Lists whose items are numbered from 1, as they are after a change.
use Rattle.std.proofs.Common.{ℕ, zero, suc, ◌≡◌, ◌≢◌, ◌+◌, ◌-◌, ◌<◌, ◌≤◌, List, [], ◌∷◌, ◌++◌, Option, Some, None, true, cond, ltb, refl, sym, ap, ◌∙◌, arith, length, map, set, slice_get}
use Rattle.std.specs.Option.{option_map}
use Rattle.std.proofs.lemmas.Bool.Decides.{nat_tests}
use Rattle.std.proofs.lemmas.Option.{slice_get-map}
use Rattle.farm_model.specs.Numbered.{item_of, change_item, with_change}

-- an item that is seen through a view
pub item_seen : {X Y : Type 0} (v : X → Y) (xs : List X) (n : ℕ) → item_of (map v xs) n ≡ option_map v (item_of xs n)
item_seen v xs zero = refl
item_seen v xs (suc n) = let yes : ltb 0 (suc n) ≡ true = grind (arith, nat_tests) in rw yes (slice_get-map v xs (suc n - 1))

pub item_at : {X : Type 0} (xs : List X) (n : ℕ) (x : X) → item_of xs n ≡ Some x → (0 < n) × (slice_get xs (n - 1) ≡ Some x)
item_at xs zero x h = cc
item_at xs (suc n) x h = (omega arith, grind (arith, nat_tests, h))

pub item_by : {X : Type 0} (xs : List X) (n : ℕ) (x : X) → 0 < n → slice_get xs (n - 1) ≡ Some x → item_of xs n ≡ Some x
item_by xs n x l h = grind (arith, nat_tests, h, l)

set_other : {X : Type 0} (xs : List X) (i j : ℕ) (y : X) → i ≢ j → slice_get (set xs i y) j ≡ slice_get xs j
set_other [] i j y n = refl
set_other (x ∷ xs) zero zero y n = absurd (n refl)
set_other (x ∷ xs) zero (suc j) y n = refl
set_other (x ∷ xs) (suc i) zero y n = refl
set_other (x ∷ xs) (suc i) (suc j) y n = set_other xs i j y (λ e. n (ap (λ k. suc k) e))

set_same : {X : Type 0} (xs : List X) (i : ℕ) (x y : X) → slice_get xs i ≡ Some x → slice_get (set xs i y) i ≡ Some y
set_same [] i x y h = cc
set_same (z ∷ xs) zero x y h = refl
set_same (z ∷ xs) (suc i) x y h = set_same xs i x y h

pub with_same : {X : Type 0} (xs : List X) (n : ℕ) (x y : X) → item_of xs n ≡ Some x → item_of (set xs (n - 1) y) n ≡ Some y
with_same xs n x y h = let a = item_at xs n x h in item_by (set xs (n - 1) y) n y a.0 (set_same xs (n - 1) x y a.1)

pub with_other : {X : Type 0} (xs : List X) (n m : ℕ) (y : X) → 0 < n → n ≢ m → item_of (set xs (n - 1) y) m ≡ item_of xs m
with_other xs n zero y l ne = refl
with_other xs n (suc m) y l ne = ap (λ (o : Option _). cond (ltb 0 (suc m)) o None) (set_other xs (n - 1) (suc m - 1) y (λ e. ne (omega arith)))

pub change_same : {X : Type 0} (xs : List X) (n : ℕ) (f : X → X) (x : X) → item_of xs n ≡ Some x → item_of (with_change xs n f) n ≡ Some (f x)
change_same xs n f x h = ap (λ o. item_of (change_item xs n f o) n) h ∙ with_same xs n x (f x) h

change_at : {X : Type 0} (xs : List X) (n m : ℕ) (f : X → X) → n ≢ m → (o : Option X) → item_of xs n ≡ o → item_of (change_item xs n f o) m ≡ item_of xs m
change_at xs n m f ne None e = refl
change_at xs n m f ne (Some x) e = with_other xs n m (f x) (item_at xs n x e).0 ne

pub change_other : {X : Type 0} (xs : List X) (n m : ℕ) (f : X → X) → n ≢ m → item_of (with_change xs n f) m ≡ item_of xs m
change_other xs n m f ne = change_at xs n m f ne (item_of xs n) refl

set_kept : {X Y : Type 0} (g : X → Y) (xs : List X) (i : ℕ) (x y : X) → slice_get xs i ≡ Some x → g y ≡ g x → map g (set xs i y) ≡ map g xs
set_kept g [] i x y h e = cc
set_kept g (z ∷ xs) zero x y h e = let s : z ≡ x = cc in ap (λ a. a ∷ map g xs) (e ∙ ap g (sym s))
set_kept g (z ∷ xs) (suc i) x y h e = ap (λ ys. g z ∷ ys) (set_kept g xs i x y h e)

-- what a change keeps of each item stays
pub kept_seen : {X Y : Type 0} (g : X → Y) (xs : List X) (n : ℕ) (f : X → X) → ((x : X) → g (f x) ≡ g x) → map g (with_change xs n f) ≡ map g xs
kept_seen {X} g xs n f e = kept (item_of xs n) refl where
  kept : (o : Option X) → item_of xs n ≡ o → map g (change_item xs n f o) ≡ map g xs
  kept None h = refl
  kept (Some x) h = set_kept g xs (n - 1) x (f x) (item_at xs n x h).1 (e x)

-- one item more
push_get : {X : Type 0} (xs : List X) (x : X) (i : ℕ) → i ≢ length xs → slice_get (xs ++ x ∷ []) i ≡ slice_get xs i
push_get [] x zero n = absurd (n refl)
push_get [] x (suc i) n = refl
push_get (y ∷ xs) x zero n = refl
push_get (y ∷ xs) x (suc i) n = push_get xs x i (λ e. n (ap suc e))

push_last : {X : Type 0} (xs : List X) (x : X) → slice_get (xs ++ x ∷ []) (length xs) ≡ Some x
push_last [] x = refl
push_last (y ∷ xs) x = push_last xs x

pub pushed_other : {X : Type 0} (xs : List X) (x : X) (n : ℕ) → n ≢ length xs + 1 → item_of (xs ++ x ∷ []) n ≡ item_of xs n
pushed_other xs x zero ne = refl
pushed_other xs x (suc n) ne = ap (λ (o : Option _). cond (ltb 0 (suc n)) o None) (push_get xs x (suc n - 1) (λ e. ne (omega arith)))

pub pushed_last : {X : Type 0} (xs : List X) (x : X) → item_of (xs ++ x ∷ []) (length xs + 1) ≡ Some x
pushed_last xs x = item_by (xs ++ x ∷ []) (length xs + 1) x (omega arith) (ap (slice_get (xs ++ x ∷ [])) (omega arith) ∙ push_last xs x)

get_within : {X : Type 0} (xs : List X) (i : ℕ) (x : X) → slice_get xs i ≡ Some x → i < length xs
get_within [] i x h = cc
get_within (y ∷ xs) zero x h = omega arith
get_within (y ∷ xs) (suc i) x h = let r = get_within xs i x h in omega (arith, r)

pub item_within : {X : Type 0} (xs : List X) (n : ℕ) (x : X) → item_of xs n ≡ Some x → (1 ≤ n) × (n ≤ length xs)
item_within xs n x h = let a = item_at xs n x h in let w = get_within xs (n - 1) x a.1 in (omega (arith, a.0), omega (arith, a.0, w))

pub none_past : {X : Type 0} (xs : List X) (n : ℕ) → length xs < n → item_of xs n ≡ None
none_past {X} xs n l = at (item_of xs n) refl where
  at : (o : Option X) → item_of xs n ≡ o → o ≡ None
  at None e = refl
  at (Some x) e = let w = item_within xs n x e in absurd (omega (arith, w.1, l))

pub item_some : {X : Type 0} (xs : List X) (n : ℕ) → 1 ≤ n → n ≤ length xs → item_of xs n ≢ None
item_some {X} xs zero low high = absurd (omega arith)
item_some {X} xs (suc m) low high = λ e.
    let place : suc m - 1 ≡ m = omega arith in
    let yes : ltb 0 (suc m) ≡ true = grind (arith, nat_tests) in
    let is : item_of xs (suc m) ≡ slice_get xs m = rw (yes, place) refl in
    some_at xs m (omega arith) (sym is ∙ e) where
      some_at : {X : Type 0} (xs : List X) (m : ℕ) → m < length xs → slice_get xs m ≡ None → ⊥
      some_at [] m l h = omega arith
      some_at (x ∷ xs) zero l h = cc
      some_at (x ∷ xs) (suc m) l h = some_at xs m (omega arith) h
