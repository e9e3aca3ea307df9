-- What stands in a row that is filled, by places.
use Rattle.std.proofs.Common.{ℕ, suc, zero, ◌≡◌, ◌≢◌, List, [], ◌∷◌, Option, Some, None, refl, sym, ap, subst, inl, inr, length, set, ◌⊎◌, unwrap_or, map}
use Rattle.std.specs.List.{slice_get, Contains}
use Rattle.lazy_stop.specs.Matters.{Fills}

pub length_fills : {X : Type 0} (P : List X) (cs : List (Option X)) (ys : List X) → Fills P cs ys → length ys ≡ length cs
length_fills P [] [] f = refl
length_fills P [] (y ∷ ys) f = absurd f
length_fills P (c ∷ cs) [] f = absurd f
length_fills P (Some x ∷ cs) (y ∷ ys) f = ap suc (length_fills P cs ys f.1)
length_fills P (None ∷ cs) (y ∷ ys) f = ap suc (length_fills P cs ys f.1)

-- a filled cell keeps its item
pub kept_at : {X : Type 0} (P : List X) (cs : List (Option X)) (ys : List X) (i : ℕ) (x : X) → Fills P cs ys → slice_get cs i ≡ Some (Some x) → slice_get ys i ≡ Some x
kept_at P [] ys i x f e = cc
kept_at P (c ∷ cs) [] i x f e = absurd f
kept_at P (Some z ∷ cs) (y ∷ ys) zero x f e = let s : z ≡ x = cc in let t : y ≡ z = f.0 in cc
kept_at P (None ∷ cs) (y ∷ ys) zero x f e = cc
kept_at P (Some z ∷ cs) (y ∷ ys) (suc i) x f e = kept_at P cs ys i x f.1 e
kept_at P (None ∷ cs) (y ∷ ys) (suc i) x f e = kept_at P cs ys i x f.1 e

-- an empty cell gets a possible item
pub filled_at : {X : Type 0} (P : List X) (cs : List (Option X)) (ys : List X) (i : ℕ) → Fills P cs ys → slice_get cs i ≡ Some None → (y : X) × (slice_get ys i ≡ Some y) × (Contains P y)
filled_at P [] ys i f e = cc
filled_at P (c ∷ cs) [] i f e = absurd f
filled_at P (Some z ∷ cs) (y ∷ ys) zero f e = cc
filled_at P (None ∷ cs) (y ∷ ys) zero f e = (y, refl, f.0)
filled_at P (Some z ∷ cs) (y ∷ ys) (suc i) f e = filled_at P cs ys i f.1 e
filled_at P (None ∷ cs) (y ∷ ys) (suc i) f e = filled_at P cs ys i f.1 e

-- where an item comes from
pub from_cell : {X : Type 0} (P : List X) (cs : List (Option X)) (ys : List X) (i : ℕ) (y : X) → Fills P cs ys → slice_get ys i ≡ Some y → (slice_get cs i ≡ Some (Some y)) ⊎ ((slice_get cs i ≡ Some None) × Contains P y)
from_cell P [] [] i y f e = cc
from_cell P [] (z ∷ ys) i y f e = absurd f
from_cell P (c ∷ cs) [] i y f e = absurd f
from_cell P (Some k ∷ cs) (z ∷ ys) zero y f e = let s : z ≡ y = cc in let t : z ≡ k = f.0 in inl cc
from_cell P (None ∷ cs) (z ∷ ys) zero y f e = let s : z ≡ y = cc in inr (refl, subst (Contains P) s f.0)
from_cell P (Some k ∷ cs) (z ∷ ys) (suc i) y f e = from_cell P cs ys i y f.1 e
from_cell P (None ∷ cs) (z ∷ ys) (suc i) y f e = from_cell P cs ys i y f.1 e

-- the row with each empty cell filled by the same item
abbrev pub filled_by : {X : Type 0} → X → List (Option X) → List X
filled_by w cs = map (λ c. unwrap_or c w) cs

pub Fills-filled_by : {X : Type 0} (P : List X) (w : X) (cs : List (Option X)) → Contains P w → Fills P cs (filled_by w cs)
Fills-filled_by P w [] h = tt
Fills-filled_by P w (Some x ∷ cs) h = (refl, Fills-filled_by P w cs h)
Fills-filled_by P w (None ∷ cs) h = (h, Fills-filled_by P w cs h)

pub filled_by-kept : {X : Type 0} (w : X) (cs : List (Option X)) (i : ℕ) (y : X) → slice_get (filled_by w cs) i ≡ Some y → (slice_get cs i ≡ Some (Some y)) ⊎ ((slice_get cs i ≡ Some None) × (y ≡ w))
filled_by-kept w [] i y e = cc
filled_by-kept w (Some x ∷ cs) zero y e = inl cc
filled_by-kept w (None ∷ cs) zero y e = inr (refl, cc)
filled_by-kept w (c ∷ cs) (suc i) y e = filled_by-kept w cs i y e

-- one empty cell is filled otherwise
pub Fills-set : {X : Type 0} (P : List X) (cs : List (Option X)) (ys : List X) (u : ℕ) (t : X) → Fills P cs ys → slice_get cs u ≡ Some None → Contains P t → Fills P cs (set ys u t)
Fills-set P [] ys u t f e h = cc
Fills-set P (c ∷ cs) [] u t f e h = absurd f
Fills-set P (Some k ∷ cs) (y ∷ ys) zero t f e h = cc
Fills-set P (None ∷ cs) (y ∷ ys) zero t f e h = (h, f.1)
Fills-set P (Some k ∷ cs) (y ∷ ys) (suc u) t f e h = (f.0, Fills-set P cs ys u t f.1 e h)
Fills-set P (None ∷ cs) (y ∷ ys) (suc u) t f e h = (f.0, Fills-set P cs ys u t f.1 e h)

pub get-set_same : {X : Type 0} (xs : List X) (u : ℕ) (t x : X) → slice_get xs u ≡ Some x → slice_get (set xs u t) u ≡ Some t
get-set_same [] u t x e = cc
get-set_same (y ∷ ys) zero t x e = refl
get-set_same (y ∷ ys) (suc u) t x e = get-set_same ys u t x e

pub get-set_other : {X : Type 0} (xs : List X) (u i : ℕ) (t : X) → i ≢ u → slice_get (set xs u t) i ≡ slice_get xs i
get-set_other [] u i t n = refl
get-set_other (y ∷ ys) zero zero t n = absurd (n refl)
get-set_other (y ∷ ys) zero (suc i) t n = refl
get-set_other (y ∷ ys) (suc u) zero t n = refl
get-set_other (y ∷ ys) (suc u) (suc i) t n = get-set_other ys u i t (λ e. n (ap suc e))

-- what a row with a cell filled is filled with, the row is filled with
pub Fills-fewer : {X : Type 0} (P : List X) (cs : List (Option X)) (u : ℕ) (t : X) (ys : List X) → slice_get cs u ≡ Some None → Contains P t → Fills P (set cs u (Some t)) ys → Fills P cs ys
Fills-fewer P [] u t ys e h f = cc
Fills-fewer P (c ∷ cs) zero t [] e h f = absurd f
Fills-fewer P (Some k ∷ cs) zero t (y ∷ ys) e h f = cc
Fills-fewer P (None ∷ cs) zero t (y ∷ ys) e h f = (subst (Contains P) (sym f.0) h, f.1)
Fills-fewer P (c ∷ cs) (suc u) t [] e h f = absurd f
Fills-fewer P (Some k ∷ cs) (suc u) t (y ∷ ys) e h f = (f.0, Fills-fewer P cs u t ys e h f.1)
Fills-fewer P (None ∷ cs) (suc u) t (y ∷ ys) e h f = (f.0, Fills-fewer P cs u t ys e h f.1)
