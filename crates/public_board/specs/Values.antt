-- What contracts see of a publisher and of readers.
use Rattle.std.specs.Prelude.{◌≡◌, ◌≢◌, ◌⊎◌, ℕ, ◌≤◌, Option, Some, None, List, [], ◌∷◌, ◌++◌, length, max, slice_index_or}
use mathlib.Core.List.{IsPrefix}
use Rattle.public_board.specs.Versions.{last_of}
use Rattle.public_board.specs.declared.readers.Version.{Version}
use Rattle.public_board.specs.declared.rule.View.{View}

-- Publishing

-- the publisher has seen all versions, and no change is pending
pub record IsUpToDate {R O : Type 0} (v : View R) (rows : List R) (count : ℕ) (pending : List O) : Type 0 where
  pub number : length v.seen ≡ count
  pub last : last_of v.seen ≡ rows
  pub least : v.least ≡ length rows
  pub none : pending ≡ []

module _ {R : Type 0} where
  -- equal rows are no new version; other rows are the next one
  abbrev pub HasPublished : List (List R) → List (List R) → List R → Type 0
  HasPublished old new rows =
      ((rows ≡ last_of old) × (new ≡ old)) ⊎ ((rows ≢ last_of old) × (new ≡ old ++ rows ∷ []))

-- Reading

-- a reader: it has seen the versions `seen`, and was told that there are `told` of them
pub record ReaderValue (R : Type 0) : Type 0 where
  pub seen : List (List R)
  -- the versions that there were when the reader was made
  pub first : List (List R)
  -- of how many versions it was told
  pub told : ℕ
  -- how many rows each version has at least
  pub least : ℕ

module _ {R : Type 0} where
  abbrev pub reader_of : View R → ℕ → ReaderValue R
  reader_of v told = record { seen = v.seen; first = v.told; told = told; least = v.least }

  abbrev pub nobody : ReaderValue R
  nobody = record { seen = []; first = []; told = 0; least = 0 }

  -- a reader that has seen nothing yet, where there were these versions
  abbrev pub new_reader : List (List R) → ReaderValue R
  new_reader versions =
      record { seen = []; first = versions; told = length versions; least = length (last_of versions) }

  abbrev pub with_note : ReaderValue R → ℕ → ReaderValue R
  with_note r number = record r { told = max r.told number }

-- the reader may have seen later versions than before
pub record Looks {R : Type 0} (old new : ReaderValue R) : Type 0 where
  pub seen : IsPrefix old.seen new.seen
  pub first : new.first ≡ old.first
  pub told : new.told ≡ old.told
  pub least : new.least ≡ old.least

-- The rows are the last version so far. It is not before any that the reader gave or was told of.
pub record Gives {R : Type 0} (allows : List (List R) → Type 0) (old new : ReaderValue R) (rows : List R) : Type 0 where
  pub looks : Looks old new
  pub first : IsPrefix old.first new.seen
  pub told : old.told ≤ length new.seen
  pub allowed : allows new.seen
  pub some : new.seen ≢ []
  pub last : rows ≡ last_of new.seen
  pub long : old.least ≤ length rows

-- The rows are given with the number of their version. Or the last version is the one of the number that is known: then it
-- is what the reader gives, and no row of it is read.
abbrev pub GivesNewer : {R : Type 0} → (List (List R) → Type 0) → ReaderValue R → ReaderValue R → ℕ → Option (Version R)
    → Type 0
GivesNewer allows old new known None = Gives allows old new (last_of new.seen) × (known ≡ length new.seen)
GivesNewer allows old new known (Some version) =
    Gives allows old new version.rows.items × (version.number ≡ length new.seen)

-- the row stands at the place `at` in the rows that are given
pub record GivesRow {R : Type 0} (allows : List (List R) → Type 0) (old new : ReaderValue R) (at : ℕ) (row : R) : Type 0 where
  pub rows : List R
  pub gives : Gives allows old new rows
  pub row_at : slice_index_or rows at row ≡ row
