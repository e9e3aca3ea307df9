-- Names that are found among others.
use Rattle.std.proofs.Common.{ℕ, ◌≡◌, ◌+◌, ◌≤◌, List, [], ◌∷◌, ◌++◌, Some, None, Bool, true, false, cond, ◌||◌, nat_lt, refl, ap, ◌∙◌, arith, length}
use Rattle.std.specs.Prelude.{not, Result, Ok, Err, IsOk, IfOk}
use Rattle.std.specs.List.{position, position_or_len, list_any}
use Rattle.std.specs.Str.{bytes_eq}
use Rattle.std.proofs.lemmas.Bool.Decides.{nat_tests}
use Rattle.indexmap.specs.IndexSet.{insert_key}

-- a search that finds nothing went to the end
pub past_end : (place len : ℕ) → cond (nat_lt place len) (Some place) None ≡ None → len ≤ place
past_end place len = elim (nat_lt place len) as (λ t. nat_lt place len ≡ t → cond t (Some place) None ≡ None → len ≤ place) [
  | true ↦ λ e h. cc
  | false ↦ λ e h. grind (arith, nat_tests)
] refl

none_passes : {X : Type 0} (p : X → Bool) (xs : List X) → length xs ≤ position_or_len p xs → list_any p xs ≡ false
none_passes p [] h = refl
none_passes p (x ∷ xs) h =
    elim (p x) as (λ t. length (x ∷ xs) ≤ cond (not t) (1 + position_or_len p xs) 0 → (t || list_any p xs) ≡ false) [
      | true ↦ λ h. absurd (omega arith)
      | false ↦ λ h. none_passes p xs (omega arith)
    ] h

of_ok : {A E P : Type 0} (r : Result A E) → IsOk r → IfOk r (λ _. P) → P
of_ok (Ok x) ok h = h
of_ok (Err e) ok h = cc

-- a name that is not there goes to the end
pub added : {E : Type 0} (name : List ℕ) (old new : List (List ℕ)) (r : Result Bool E)
    → position (λ other. bytes_eq name other) old ≡ None → IsOk r → IfOk r (λ _. new ≡ insert_key bytes_eq old name) → new ≡ old ++ name ∷ []
added name old new r unknown ok inserted =
    let absent : list_any (bytes_eq name) old ≡ false = none_passes (bytes_eq name) old (past_end (position_or_len (bytes_eq name) old) (length old) unknown) in
    of_ok r ok inserted ∙ ap (λ t. cond t old (old ++ name ∷ [])) absent
