-- Versions of the rows: the last one is what readers take, and each view knows a beginning of them.
use Rattle.std.specs.Prelude.{◌≡◌, ℕ, ◌≤◌, List, [], ◌∷◌, ◌++◌, length, max, nat_lt, if◌then◌else◌}
use mathlib.Core.Option.{some}
use mathlib.Core.List.{IsPrefix}
use lib.ListN.{get_elem?}
use Rattle.public_board.specs.declared.rows.Rows.{Rows}
use Rattle.public_board.specs.declared.rule.View.{View}

module _ {R : Type 0} where
  -- the last version, or no rows where there is none
  abbrev pub last_of : List (List R) → List R
  last_of [] = []
  last_of (v ∷ []) = v
  last_of (v ∷ w ∷ vs) = last_of (w ∷ vs)

  -- the longer list, or the first where neither is longer
  abbrev pub longer : List (List R) → List (List R) → List (List R)
  longer vs ws = if nat_lt (length vs) (length ws) then ws else vs

  -- Views

  -- who has seen nothing yet
  abbrev pub newcomer : View R
  newcomer = record { seen = []; told = []; least = 0 }

  -- the view that was told what another has seen
  abbrev pub informed : View R → View R → View R
  informed v w = record { seen = v.seen; told = longer v.told w.seen; least = max v.least w.least }

-- what the view v knows of the versions is so
pub record Fits {R : Type 0} (versions : List (List R)) (v : View R) : Type 0 where
  pub seen : IsPrefix v.seen versions
  pub told : IsPrefix v.told versions
  pub least : v.least ≤ length (last_of versions)

-- the rows are the last of versions that may be published, and each view fits them
pub record Keeps {R : Type 0} (allows : List (List R) → Type 0) (x : Rows R) (views : List (View R)) : Type 0 where
  pub versions : List (List R)
  pub allowed : allows versions
  pub count : length versions ≡ x.count
  pub last : last_of versions ≡ x.rows.items
  pub fit : (seat : ℕ) (v : View R) → get_elem? views seat ≡ some v → Fits versions v

-- Steps

-- a reader saw all versions so far, of which the last has the rows
pub record Sees {R : Type 0} (allows : List (List R) → Type 0) (v : View R) (x y : Rows R) (w : View R) : Type 0 where
  pub seen : IsPrefix v.seen w.seen
  pub told : IsPrefix v.told w.seen
  pub allowed : allows w.seen
  pub count : length w.seen ≡ x.count
  pub last : last_of w.seen ≡ x.rows.items
  pub least : v.least ≤ length x.rows.items
  pub kept_told : w.told ≡ v.told
  pub kept_least : w.least ≡ v.least

-- the publisher made the next version
pub record Publishes {R : Type 0} (v : View R) (x y : Rows R) (w : View R) : Type 0 where
  pub seen : w.seen ≡ v.seen ++ y.rows.items ∷ []
  pub told : w.told ≡ v.told
  pub least : w.least ≡ length y.rows.items
  pub count : length w.seen ≡ y.count
