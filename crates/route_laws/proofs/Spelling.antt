-- What a pattern spells.
use Rattle.std.proofs.Common.{◌≡◌, ℕ, List, [], ◌∷◌, ◌++◌, eqb, true, false, drop, get_or}
use Rattle.std.specs.Prelude.{⊤}
use Rattle.matchit.specs.Rows.{param_token}
use Rattle.matchit.specs.Seek.{has_slash}

-- the pattern, with these values where it has parameters
abbrev pub spelled : List ℕ → List (List ℕ) → List ℕ
spelled [] values = []
spelled (token ∷ tokens) values =
    elim (eqb token param_token) as (λ is. List ℕ) [
      | true ↦ get_or values 0 [] ++ spelled tokens (drop 1 values)
      | false ↦ token ∷ spelled tokens values
    ]

-- no value has a slash
abbrev pub AreSlashless : List (List ℕ) → Type 0
AreSlashless [] = ⊤
AreSlashless (value ∷ values) = (has_slash value ≡ false) × AreSlashless values
