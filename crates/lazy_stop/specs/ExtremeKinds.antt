-- The possible kinds of the greatest and of the least priority.
use Rattle.std.specs.Prelude.{◌≡◌, ◌≢◌, ◌≤◌, ℕ, List, Option, Some, None}
use Rattle.std.specs.List.{Contains}
use Rattle.farm_kinds.specs.RuleValue.{RuleValue}
use Rattle.farm_kinds.specs.Rules.{prio_of, possible_kinds}
use Rattle.lazy_stop.specs.declared.extremes.Extremes.{Extremes}

-- no item is higher
abbrev pub Highest : {X : Type 0} → (X → ℕ) → List X → X → Type 0
Highest {X} rank possible top = (x : X) → Contains possible x → rank x ≤ rank top

-- no item is lower
abbrev pub Lowest : {X : Type 0} → (X → ℕ) → List X → X → Type 0
Lowest {X} rank possible low = (x : X) → Contains possible x → rank low ≤ rank x

-- only this item is as high
abbrev pub Alone : {X : Type 0} → (X → ℕ) → List X → X → Type 0
Alone {X} rank possible top = (x : X) → Contains possible x → rank x ≡ rank top → x ≡ top

-- another item that is as high, where there is one
abbrev pub RivalIs : {X : Type 0} → (X → ℕ) → List X → X → Option X → Type 0
RivalIs rank possible top None = Alone rank possible top
RivalIs rank possible top (Some rival) = Contains possible rival × (rank rival ≡ rank top) × (rival ≢ top)

pub record IsExtremes (rule : RuleValue) (extremes : Extremes) : Type 0 where
  pub greatest_possible : Contains (possible_kinds rule) extremes.greatest
  pub highest : Highest (prio_of rule) (possible_kinds rule) extremes.greatest
  pub least_possible : Contains (possible_kinds rule) extremes.least
  pub lowest : Lowest (prio_of rule) (possible_kinds rule) extremes.least
  pub rival : RivalIs (prio_of rule) (possible_kinds rule) extremes.greatest extremes.rival
