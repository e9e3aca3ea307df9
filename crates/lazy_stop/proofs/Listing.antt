-- The list of all completions.
use Rattle.std.proofs.Common.{suc, zero, ◌≡◌, List, [], ◌∷◌, Some, None, Bool, true, false, cond, ◌&&◌, ◌||◌, refl, sym, ap, ◌∙◌, subst, inl, inr, arith, ◌⊎◌, map}
use Rattle.std.specs.List.{Contains, flat_map, list_all, list_any, find}
use Rattle.std.proofs.lemmas.List.Elements.{Contains-append_left, Contains-append_right, Contains-append_cases}
use Rattle.farm_kinds.specs.declared.kinds.Kind.{Kind}
use Rattle.farm_kinds.specs.RuleValue.{RuleValue}
use Rattle.farm_kinds.specs.Rules.{possible_kinds}
use Rattle.farm_model.specs.Rows.{Row, each_before, completions_of}
use Rattle.lazy_stop.specs.Matters.{Fills}

Contains-here : {X : Type 0} (x : X) (xs : List X) → Contains (x ∷ xs) x
Contains-here x xs = (0, omega arith, refl)

Contains-behind : {X : Type 0} (y x : X) (xs : List X) → Contains xs x → Contains (y ∷ xs) x
Contains-behind y x xs h = (suc h.0, omega (arith, h.1), h.2)

Contains_cases : {X : Type 0} (y x : X) (xs : List X) → Contains (y ∷ xs) x → (y ≡ x) ⊎ Contains xs x
Contains_cases y x xs (zero, l, e) = inl e
Contains_cases y x xs (suc k, l, e) = inr (k, omega arith, e)

not_in_nothing : {X : Type 0} (x : X) → Contains [] x → ⊥
not_in_nothing x h = omega (arith, h.1)

with_head-in : (k : Kind) (lists : List (List Kind)) (ys : List Kind) → Contains lists ys → Contains (map (λ list. k ∷ list) lists) (k ∷ ys)
with_head-in k [] ys h = absurd (not_in_nothing ys h)
with_head-in k (r ∷ lists) ys h = elim (Contains_cases r ys lists h) [
  | inl e ↦ subst (λ z. Contains ((k ∷ r) ∷ map (λ list. k ∷ list) lists) (k ∷ z)) e (Contains-here (k ∷ r) (map (λ list. k ∷ list) lists))
  | inr t ↦ Contains-behind (k ∷ r) (k ∷ ys) (map (λ list. k ∷ list) lists) (with_head-in k lists ys t)
]

with_head-out : (k : Kind) (lists : List (List Kind)) (zs : List Kind) → Contains (map (λ list. k ∷ list) lists) zs → (ys : List Kind) × (zs ≡ k ∷ ys) × Contains lists ys
with_head-out k [] zs h = absurd (not_in_nothing zs h)
with_head-out k (r ∷ lists) zs h = elim (Contains_cases (k ∷ r) zs (map (λ list. k ∷ list) lists) h) [
  | inl e ↦ (r, sym e, Contains-here r lists)
  | inr t ↦ let u = with_head-out k lists zs t in (u.0, u.1, Contains-behind r u.0 lists u.2)
]

flat_map-in : {X Y : Type 0} (f : X → List Y) (xs : List X) (x : X) (y : Y) → Contains xs x → Contains (f x) y → Contains (flat_map f xs) y
flat_map-in f [] x y h k = absurd (not_in_nothing x h)
flat_map-in f (z ∷ xs) x y h k = elim (Contains_cases z x xs h) [
  | inl e ↦ Contains-append_left (f z) (flat_map f xs) y (subst (λ w. Contains (f w) y) (sym e) k)
  | inr q ↦ Contains-append_right (f z) (flat_map f xs) y (flat_map-in f xs x y q k)
]

flat_map-out : {X Y : Type 0} (f : X → List Y) (xs : List X) (y : Y) → Contains (flat_map f xs) y → (x : X) × Contains xs x × Contains (f x) y
flat_map-out f [] y h = absurd (not_in_nothing y h)
flat_map-out f (z ∷ xs) y h = elim (Contains-append_cases (f z) (flat_map f xs) y h) [
  | inl k ↦ (z, Contains-here z xs, k)
  | inr k ↦ let t = flat_map-out f xs y k in (t.0, Contains-behind z t.0 xs t.1, t.2)
]

before-in : (kinds : List Kind) (lists : List (List Kind)) (k : Kind) (ys : List Kind) → Contains kinds k → Contains lists ys → Contains (each_before kinds lists) (k ∷ ys)
before-in kinds lists k ys h t = flat_map-in (λ kind. map (λ list. kind ∷ list) lists) kinds k (k ∷ ys) h (with_head-in k lists ys t)

before-out : (kinds : List Kind) (lists : List (List Kind)) (zs : List Kind) → Contains (each_before kinds lists) zs → (k : Kind) × (ys : List Kind) × (zs ≡ k ∷ ys) × Contains kinds k × Contains lists ys
before-out kinds lists zs h =
    let s = flat_map-out (λ kind. map (λ list. kind ∷ list) lists) kinds zs h in
    let t = with_head-out s.0 lists zs s.2 in
    (s.0, t.0, t.1, s.1, t.2)

-- each completion is listed
pub listed : (rule : RuleValue) (row : Row) (ys : List Kind) → Fills (possible_kinds rule) row ys → Contains (completions_of rule row) ys
listed rule [] [] f = Contains-here [] []
listed rule [] (y ∷ ys) f = absurd f
listed rule (c ∷ row) [] f = absurd f
listed rule (Some k ∷ row) (y ∷ ys) f = before-in (k ∷ []) (completions_of rule row) y ys (subst (Contains (k ∷ [])) (sym f.0) (Contains-here k [])) (listed rule row ys f.1)
listed rule (None ∷ row) (y ∷ ys) f = before-in (possible_kinds rule) (completions_of rule row) y ys f.0 (listed rule row ys f.1)

-- what is listed is a completion
pub fills_listed : (rule : RuleValue) (row : Row) (ys : List Kind) → Contains (completions_of rule row) ys → Fills (possible_kinds rule) row ys
fills_listed rule [] ys h = elim (Contains_cases [] ys [] h) [ inl e ↦ subst (Fills (possible_kinds rule) []) e tt | inr k ↦ absurd (not_in_nothing ys k) ]
fills_listed rule (Some k ∷ row) ys h =
    let t = before-out (k ∷ []) (completions_of rule row) ys h in
    elim (Contains_cases k t.0 [] t.3) [
      | inl e ↦ subst (Fills (possible_kinds rule) (Some k ∷ row)) (sym t.2) (sym e, fills_listed rule row t.1 t.4)
      | inr n ↦ absurd (not_in_nothing t.0 n)
    ]
fills_listed rule (None ∷ row) ys h =
    let t = before-out (possible_kinds rule) (completions_of rule row) ys h in
    subst (Fills (possible_kinds rule) (None ∷ row)) (sym t.2) (t.3, fills_listed rule row t.1 t.4)

-- a test of all items
pub list_all-each : {X : Type 0} (p : X → Bool) (xs : List X) (x : X) → list_all p xs ≡ true → Contains xs x → p x ≡ true
list_all-each p [] x t h = absurd (not_in_nothing x h)
list_all-each p (y ∷ ys) x t h = elim (Contains_cases y x ys h) [
  | inl e ↦ subst (λ z. p z ≡ true) e ((and_true (p y) (list_all p ys) t).0)
  | inr k ↦ list_all-each p ys x ((and_true (p y) (list_all p ys) t).1) k
]
  where
    and_true : (a b : Bool) → (a && b) ≡ true → (a ≡ true) × (b ≡ true)
    and_true true b t = (refl, t)
    and_true false b t = cc

-- an item that fails, where not all pass
pub list_all-fails : {X : Type 0} (p : X → Bool) (xs : List X) → list_all p xs ≡ false → (x : X) × Contains xs x × (p x ≡ false)
list_all-fails p [] t = cc
list_all-fails p (y ∷ ys) t = elim (p y) as (λ b. p y ≡ b → (b && list_all p ys) ≡ false → (x : _) × Contains (y ∷ ys) x × (p x ≡ false)) [
  | true ↦ λ e k. let h = list_all-fails p ys k in (h.0, Contains-behind y h.0 ys h.1, h.2)
  | false ↦ λ e k. (y, Contains-here y ys, e)
] refl t

pub find_unique : {X : Type 0} (p : X → Bool) (xs : List X) (v : X) → Contains xs v → p v ≡ true → ((w : X) → p w ≡ true → w ≡ v) → find p xs ≡ Some v
find_unique p [] v h t only = absurd (not_in_nothing v h)
find_unique p (y ∷ ys) v h t only = elim (p y) as (λ b. p y ≡ b → cond b (Some y) (find p ys) ≡ Some v) [
  | true ↦ λ e. ap Some (only y e)
  | false ↦ λ e. elim (Contains_cases y v ys h) [
    | inl q ↦ let k : p y ≡ true = ap p q ∙ t in cc
    | inr k ↦ find_unique p ys v k t only
  ]
] refl

pub find_nothing : {X : Type 0} (p : X → Bool) (xs : List X) → ((w : X) → p w ≡ false) → find p xs ≡ None
find_nothing p [] h = refl
find_nothing p (y ∷ ys) h = rw (h y) (find_nothing p ys h)

-- an item that passes, where one does
pub list_any-one : {X : Type 0} (p : X → Bool) (xs : List X) → list_any p xs ≡ true → (x : X) × Contains xs x × (p x ≡ true)
list_any-one p [] t = cc
list_any-one p (y ∷ ys) t = elim (p y) as (λ b. p y ≡ b → (b || list_any p ys) ≡ true → (x : _) × Contains (y ∷ ys) x × (p x ≡ true)) [
  | true ↦ λ e k. (y, Contains-here y ys, e)
  | false ↦ λ e k. let h = list_any-one p ys k in (h.0, Contains-behind y h.0 ys h.1, h.2)
] refl t

pub list_any-some : {X : Type 0} (p : X → Bool) (xs : List X) (x : X) → Contains xs x → p x ≡ true → list_any p xs ≡ true
list_any-some p [] x h t = absurd (not_in_nothing x h)
list_any-some p (y ∷ ys) x h t = elim (Contains_cases y x ys h) [ inl e ↦ rw (ap p e ∙ t) refl | inr k ↦ or_right (p y) (list_any p ys) (list_any-some p ys x k t) ]
  where
    or_right : (a b : Bool) → b ≡ true → (a || b) ≡ true
    or_right true b t = refl
    or_right false b t = t
