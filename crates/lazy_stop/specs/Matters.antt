-- Completions of a row by places, the cells that matter, and what later results make of a row.
use Rattle.std.specs.Prelude.{◌≡◌, ◌≢◌, ℕ, List, [], ◌∷◌, Option, Some, None, slice_get}
use Rattle.std.specs.List.{Contains}
use Rattle.farm_kinds.specs.declared.kinds.Kind.{Kind}
use Rattle.farm_kinds.specs.RuleValue.{RuleValue}
use Rattle.farm_kinds.specs.Rules.{possible_kinds, verdict_of}
use Rattle.farm_model.specs.Rows.{Row, completions_of}

-- a result can count as this kind
unfoldable pub IsPossible : RuleValue → Kind → Type 0
IsPossible rule kind = Contains (possible_kinds rule) kind

-- these items stand in the row, each empty cell being filled with one of the possible items
abbrev pub Fills : {X : Type 0} → List X → List (Option X) → List X → Type 0
Fills possible [] [] = Unit {0}
Fills possible [] (item ∷ items) = ⊥
Fills possible (cell ∷ row) [] = ⊥
Fills possible (Some kept ∷ row) (item ∷ items) = (item ≡ kept) × Fills possible row items
Fills possible (None ∷ row) (item ∷ items) = Contains possible item × Fills possible row items

-- the row with each empty cell filled with a possible kind
abbrev pub IsCompletion : RuleValue → Row → List Kind → Type 0
IsCompletion rule row kinds = Fills (possible_kinds rule) row kinds

-- every completion has this verdict
abbrev pub Settled : RuleValue → Row → Kind → Type 0
Settled rule row v = (kinds : List Kind) → IsCompletion rule row kinds → verdict_of rule kinds ≡ Some v

-- the cell is empty, and two completions that differ there alone have different verdicts
pub record Matters (rule : RuleValue) (row : Row) (at : ℕ) : Type 0 where
  pub empty : slice_get row at ≡ Some None
  pub one : List Kind
  pub other : List Kind
  pub one_completes : Contains (completions_of rule row) one
  pub other_completes : Contains (completions_of rule row) other
  pub alone : (i : ℕ) → i ≢ at → slice_get one i ≡ slice_get other i
  pub differ : verdict_of rule one ≢ verdict_of rule other

-- some empty cell matters
abbrev pub SomeMatters : RuleValue → Row → Type 0
SomeMatters rule row = (at : ℕ) × Matters rule row at

-- the later row keeps each filled cell, and what it fills besides it fills with possible items
abbrev pub Extends : {X : Type 0} → List X → List (Option X) → List (Option X) → Type 0
Extends possible [] [] = Unit {0}
Extends possible [] (new ∷ later) = ⊥
Extends possible (cell ∷ row) [] = ⊥
Extends possible (Some kept ∷ row) (new ∷ later) = (new ≡ Some kept) × Extends possible row later
Extends possible (None ∷ row) (None ∷ later) = Extends possible row later
Extends possible (None ∷ row) (Some item ∷ later) = Contains possible item × Extends possible row later
