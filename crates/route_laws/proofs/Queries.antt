-- What stands before the question mark of a target.
use Rattle.std.proofs.Common.{ℕ, suc, ◌≡◌, ◌+◌, List, [], ◌∷◌, ◌++◌, Bool, true, false, cond, not, refl, ap, ◌∙◌, arith, length, take, eqb, Contains}
use Rattle.std.specs.List.{position_or_len}
use Rattle.std.proofs.lemmas.Bool.{eqb-true}
use Rattle.std.proofs.Math.Seq.{take-append_seam, take-length}
use Rattle.farm_api.specs.Routes.{path_of}

abbrev is_mark : ℕ → Bool
is_mark b = eqb b 63

first_is : (b : ℕ) (v : List ℕ) → b ≡ 63 → Contains (b ∷ v) 63
first_is b v e = (0, omega arith, e)

later_is : (b : ℕ) (v : List ℕ) → Contains v 63 → Contains (b ∷ v) 63
later_is b v h = let lt = h.1 in (suc h.0, omega arith, h.2)

mark_behind : (path query : List ℕ) → ¬ Contains path 63 → position_or_len is_mark (path ++ 63 ∷ query) ≡ length path
mark_behind [] query none = refl
mark_behind (b ∷ path) query none = by (is_mark b) refl (mark_behind path query (λ h. none (later_is b path h)))
  where
    by : (t : Bool) → is_mark b ≡ t → position_or_len is_mark (path ++ 63 ∷ query) ≡ length path → cond (not t) (1 + position_or_len is_mark (path ++ 63 ∷ query)) 0 ≡ length (b ∷ path)
    by true e rest = absurd (none (first_is b path (eqb-true b 63 e)))
    by false e rest = omega (arith, rest)

no_mark : (path : List ℕ) → ¬ Contains path 63 → position_or_len is_mark path ≡ length path
no_mark [] none = refl
no_mark (b ∷ path) none = by (is_mark b) refl (no_mark path (λ h. none (later_is b path h)))
  where
    by : (t : Bool) → is_mark b ≡ t → position_or_len is_mark path ≡ length path → cond (not t) (1 + position_or_len is_mark path) 0 ≡ length (b ∷ path)
    by true e rest = absurd (none (first_is b path (eqb-true b 63 e)))
    by false e rest = omega (arith, rest)

pub path_alone : (path : List ℕ) → ¬ Contains path 63 → path_of path ≡ path
path_alone path none = ap (λ (n : ℕ). take n path) (no_mark path none) ∙ take-length path

pub path_before : (path query : List ℕ) → ¬ Contains path 63 → path_of (path ++ 63 ∷ query) ≡ path
path_before path query none = ap (λ (n : ℕ). take n (path ++ 63 ∷ query)) (mark_behind path query none) ∙ take-append_seam path (63 ∷ query)
