-- What of a file is read ahead, and why a record is not read.
use Rattle.std.specs.Prelude.{◌≡◌, ◌≤◌, ℕ, List, length, take, drop, Result, IsErrOf}
use Rattle.record_store.specs.declared.ahead.Ahead.{Ahead}
use Rattle.record_store.specs.Model.{Rose}
use Rattle.record_store.specs.declared.records.ReadFault.{ReadFault}
use Rattle.record_store.specs.declared.records.ReadFault.TheVariants as fault

-- the count of faults never falls, and has risen where the disk failed
pub record HasReadCause {A : Type 0} (before now : ℕ) (result : Result A ReadFault) : Type 0 where
  pub later : before ≤ now
  pub failed : IsErrOf result fault.Disk → Rose before now

-- what was read ahead is of this file
abbrev pub IsAhead : List ℕ → Ahead → Type 0
IsAhead file ahead = ahead.bytes.items ≡ take (length ahead.bytes.items) (drop ahead.from file)
