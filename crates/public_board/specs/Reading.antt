-- What a read tells of a view.
use Rattle.std.specs.Prelude.{◌≡◌, ◌≢◌, ℕ, ◌≤◌, Option, Some, None, List, [], length, slice_index_or}
use mathlib.Core.List.{IsPrefix}
use Rattle.public_board.specs.Versions.{last_of}
use Rattle.public_board.specs.declared.readers.Version.{Version}
use Rattle.public_board.specs.declared.rule.View.{View}

-- the reader has seen all versions so far, or none more
pub record LooksAt {R : Type 0} (v w : View R) : Type 0 where
  pub seen : IsPrefix v.seen w.seen
  pub told : w.told ≡ v.told
  pub least : w.least ≡ v.least

-- the reader has seen all versions so far, at least `told` of them, of which the last has the rows `rows`
pub record SeesRows {R : Type 0} (allows : List (List R) → Type 0) (v w : View R) (told : ℕ) (rows : List R) : Type 0 where
  pub seen : IsPrefix v.seen w.seen
  pub first : IsPrefix v.told w.seen
  pub allowed : allows w.seen
  pub number : told ≤ length w.seen
  pub some : w.seen ≢ []
  pub last : rows ≡ last_of w.seen
  pub long : v.least ≤ length rows
  pub kept_told : w.told ≡ v.told
  pub kept_least : w.least ≡ v.least

-- the rows of the last version with its number; or no rows, where its number is `known`
abbrev pub SeesNewer : {R : Type 0} → (List (List R) → Type 0) → View R → View R → ℕ → ℕ → Option (Version R) → Type 0
SeesNewer allows v w told known None = SeesRows allows v w told (last_of w.seen) × (known ≡ length w.seen)
SeesNewer allows v w told known (Some version) =
    SeesRows allows v w told version.rows.items × (version.number ≡ length w.seen)

-- the row stands at the place `at` in the rows of the last version
pub record SeesRow {R : Type 0} (allows : List (List R) → Type 0) (v w : View R) (told at : ℕ) (row : R) : Type 0 where
  pub rows : List R
  pub sees : SeesRows allows v w told rows
  pub row_at : slice_index_or rows at row ≡ row
