-- From one filling to another, a cell at a time.
use Rattle.std.proofs.Common.{ℕ, suc, zero, ◌≡◌, ◌≢◌, List, [], ◌∷◌, Option, Some, None, refl, sym, ap, ◌∙◌, inl, inr, ◌⊎◌}
use Rattle.std.specs.List.{slice_get}
use Rattle.lazy_stop.specs.Matters.{Fills}
use Rattle.lazy_stop.proofs.Deciding.{Turns}

-- what turns the rest of a row turns the row, with the same item before both
turns_behind : {X Y : Type 0} (value : List X → Y) (P : List X) (cell : Option X) (cs : List (Option X)) (x : X) (u : ℕ) → ((ys : List X) → Fills P cs ys → Fills P (cell ∷ cs) (x ∷ ys)) → Turns (λ ys. value (x ∷ ys)) P cs u → Turns value P (cell ∷ cs) (suc u)
turns_behind {X} value P cell cs x u fill t = record {
  one = x ∷ t.one;
  other = x ∷ t.other;
  one_fills = fill t.one t.one_fills;
  other_fills = fill t.other t.other_fills;
  alone = alone;
  differ = t.differ;
}
  where
    alone : (i : ℕ) → i ≢ suc u → slice_get (x ∷ t.one) i ≡ slice_get (x ∷ t.other) i
    alone zero n = refl
    alone (suc i) n = t.alone i (λ e. n (ap suc e))

-- a cell that is empty turns the value
abbrev pub SomeTurns : {X Y : Type 0} → (List X → Y) → List X → List (Option X) → Type 0
SomeTurns value P cs = (u : ℕ) × (slice_get cs u ≡ Some None) × Turns value P cs u

pub walk : {X Y : Type 0} (same : (a b : Y) → (a ≡ b) ⊎ (a ≢ b)) (value : List X → Y) (P : List X) (cs : List (Option X)) (xs ys : List X) → Fills P cs xs → Fills P cs ys → (value xs ≡ value ys) ⊎ SomeTurns value P cs
walk same value P [] [] [] f g = inl refl
walk same value P [] [] (y ∷ ys) f g = absurd g
walk same value P [] (x ∷ xs) ys f g = absurd f
walk same value P (c ∷ cs) [] ys f g = absurd f
walk same value P (c ∷ cs) (x ∷ xs) [] f g = absurd g
walk same value P (Some k ∷ cs) (x ∷ xs) (y ∷ ys) f g =
    elim (walk same (λ zs. value (k ∷ zs)) P cs xs ys f.1 g.1) [
      | inl e ↦ inl (ap (λ z. value (z ∷ xs)) f.0 ∙ e ∙ ap (λ z. value (z ∷ ys)) (sym g.0))
      | inr t ↦ inr (suc t.0, t.1, turns_behind value P (Some k) cs k t.0 (λ zs h. (refl, h)) t.2)
    ]
walk same value P (None ∷ cs) (x ∷ xs) (y ∷ ys) f g =
    elim (same (value (x ∷ xs)) (value (y ∷ xs))) [
      | inl e ↦ elim (walk same (λ zs. value (y ∷ zs)) P cs xs ys f.1 g.1) [
        | inl k ↦ inl (e ∙ k)
        | inr t ↦ inr (suc t.0, t.1, turns_behind value P None cs y t.0 (λ zs h. (g.0, h)) t.2)
      ]
      | inr n ↦ inr (
        0,
        refl,
        record {
          one = x ∷ xs;
          other = y ∷ xs;
          one_fills = (f.0, f.1);
          other_fills = (g.0, f.1);
          alone = at_head x y xs;
          differ = n;
        },
      )
    ]
  where
    at_head : {X : Type 0} (x y : X) (xs : List X) (i : ℕ) → i ≢ 0 → slice_get (x ∷ xs) i ≡ slice_get (y ∷ xs) i
    at_head x y xs zero n = absurd (n refl)
    at_head x y xs (suc i) n = refl
