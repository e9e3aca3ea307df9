-- What is kept beside a row: its best filled cell, its first empty cell, and the extremes of its rule.
use Rattle.std.specs.Prelude.{◌≡◌, ◌≢◌, ◌<◌, ◌≤◌, ℕ, List, Option, Some, None, slice_get, length}
use Rattle.std.specs.List.{Contains}
use Rattle.farm_kinds.specs.declared.kinds.Kind.{Kind}
use Rattle.farm_kinds.specs.RuleValue.{RuleValue}
use Rattle.farm_kinds.specs.Rules.{prio_of, possible_kinds}
use Rattle.farm_model.specs.Rows.{Row}
use Rattle.lazy_stop.specs.ExtremeKinds.{IsExtremes}
use Rattle.lazy_stop.specs.declared.row.Best.{Best}
use Rattle.lazy_stop.specs.declared.extremes.Extremes.{Extremes}

-- each filled cell holds a possible item
abbrev pub AllPossible : {X : Type 0} → List X → List (Option X) → Type 0
AllPossible {X} possible cells = (i : ℕ) (x : X) → slice_get cells i ≡ Some (Some x) → Contains possible x

-- the item stands at the place, filled cells before it are lower, and no filled cell is higher
pub record IsBest {X : Type 0} (rank : X → ℕ) (cells : List (Option X)) (kind : X) (at : ℕ) : Type 0 where
  pub here : slice_get cells at ≡ Some (Some kind)
  pub earlier : (i : ℕ) (x : X) → i < at → slice_get cells i ≡ Some (Some x) → rank x < rank kind
  pub others : (i : ℕ) (x : X) → slice_get cells i ≡ Some (Some x) → rank x ≤ rank kind

-- the best filled cell, where one is filled
abbrev pub BestIs : RuleValue → Row → Option Best → Type 0
BestIs rule cells None = (i : ℕ) (kind : Kind) → slice_get cells i ≢ Some (Some kind)
BestIs rule cells (Some best) = IsBest (prio_of rule) cells best.kind best.at

-- the place of the first empty cell, or the length where each cell is filled
pub record IsFirstEmpty {X : Type 0} (cells : List (Option X)) (at : ℕ) : Type 0 where
  pub within : at ≤ length cells
  pub filled : (i : ℕ) → i < at → slice_get cells i ≢ Some None
  pub empty : at < length cells → slice_get cells at ≡ Some None

pub record IsRow (rule : RuleValue) (extremes : Extremes) (best : Option Best) (first_empty : ℕ) (cells : Row)
    : Type 0 where
  pub extremes_is : IsExtremes rule extremes
  pub possible : AllPossible (possible_kinds rule) cells
  pub best_is : BestIs rule cells best
  pub empty_is : IsFirstEmpty cells first_empty
