-- A disk that holds one file: what a read gives, what is pending, and what a crash may leave.
use Rattle.std.specs.Prelude.{◌≡◌, ◌≤◌, ◌<◌, ◌⊎◌, ℕ, ◌+◌, ◌-◌, ◌^◌, min, max, List, [], ◌∷◌, ◌++◌, length, take, drop, slice_index, Result, Ok, OnOk, OnErr}
use Rattle.std.specs.List.{AllByRecursion}
use Rattle.record_store.specs.declared.disk.DiskErr.{DiskErr}
use Rattle.record_store.specs.declared.disk.Access.{Access}

-- A file that was opened.
pub record Opening : Type 0 where
  pub path : List ℕ
  pub access : Access

-- `len` bytes from the offset `at` on were written.
pub record Range : Type 0 where
  pub at : ℕ
  pub len : ℕ

-- A disk at one moment.
pub record DiskState : Type 0 where
  -- the bytes that a read gives
  pub seen : List ℕ
  -- the bytes at the last sync
  pub synced : List ℕ
  -- what was written since, the last write first
  pub pending : List Range

-- the offset lies in none of the ranges
abbrev pub IsOutside : ℕ → List Range → Type 0
IsOutside i [] = Unit {0}
IsOutside i (range ∷ ranges) = ((i < range.at) ⊎ (range.at + range.len ≤ i)) × IsOutside i ranges

-- the greatest length that was written
abbrev pub greatest : ℕ → List Range → ℕ
greatest len [] = len
greatest len (range ∷ ranges) = max (range.at + range.len) (greatest len ranges)

-- What a crash at this moment may leave: any bytes in what is pending and past the old end, a length between the
-- synced one and the greatest that was written, and elsewhere what was synced.
pub record IsImage (disk : DiskState) (bytes : List ℕ) : Type 0 where
  pub no_shorter : length disk.synced ≤ length bytes
  pub no_longer : length bytes ≤ greatest (length disk.synced) disk.pending
  pub outside : (i : ℕ) → i < length disk.synced → IsOutside i disk.pending → slice_index bytes i ≡ slice_index disk.synced i

-- each crash at this moment leaves bytes that have P
abbrev pub Leaves : (List ℕ → Type 0) → DiskState → Type 0
Leaves P disk = (bytes : List ℕ) → IsImage disk bytes → P bytes

-- no write is pending
pub record IsQuiet (disk : DiskState) : Type 0 where
  pub none : disk.pending ≡ []
  pub same : disk.seen ≡ disk.synced

-- The moments of a disk: now, and those before, the last one first. Each write and each sync is one more.
pub record DiskTime : Type 0 where
  pub now : DiskState
  pub past : List DiskState

-- At the start of what is spoken of and at each moment since, a crash leaves bytes that have P.
pub record AtEachMoment (P : List ℕ → Type 0) (old new : DiskTime) : Type 0 where
  pub at_first : Leaves P old.now
  pub since : List DiskState
  pub moments : new.now ∷ new.past ≡ since ++ old.now ∷ old.past
  pub each : AllByRecursion (Leaves P) since

-- the bytes with these in place of what was at the offset
abbrev pub overlaid : List ℕ → ℕ → List ℕ → List ℕ
overlaid file at bytes = take at file ++ bytes ++ drop (at + length bytes) file

-- A write: its range is pending. Where it succeeds, the read gives what was written.
pub record Writes (at : ℕ) (bytes : List ℕ) (result : Result (Unit {0}) DiskErr) (old new : DiskState) : Type 0 where
  pub synced : new.synced ≡ old.synced
  pub pending : new.pending ≡ record { at = at; len = length bytes } ∷ old.pending
  pub done : OnOk result (new.seen ≡ overlaid old.seen at bytes)

-- A sync: where it succeeds, what a read gives is on the disk. Else nothing is known to have changed.
pub record Syncs (result : Result (Unit {0}) DiskErr) (old new : DiskState) : Type 0 where
  pub seen : new.seen ≡ old.seen
  pub done : OnOk result ((new.synced ≡ old.seen) × (new.pending ≡ []))
  pub failed : OnErr result ((new.synced ≡ old.synced) × (new.pending ≡ old.pending))

-- one moment more
pub record Passes (step : DiskState → DiskState → Type 0) (old new : DiskTime) : Type 0 where
  pub past : new.past ≡ old.now ∷ old.past
  pub stepped : step old.now new.now

-- a sync that succeeded is all that was done
abbrev pub OnlySynced : DiskTime → DiskTime → Type 0
OnlySynced old new = Passes (Syncs (Ok tt)) old new

-- a count of faults has risen, or stands at the end of its type
abbrev pub Rose : ℕ → ℕ → Type 0
Rose before now = min (before + 1) (2 ^ 64 - 1) ≤ now

-- the count of faults never falls, and rises at each failure
pub record HasCause {A : Type 0} (before now : ℕ) (result : Result A DiskErr) : Type 0 where
  pub later : before ≤ now
  pub failed : OnErr result (Rose before now)
