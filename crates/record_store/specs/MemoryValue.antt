-- What a disk in memory is seen as.
use Rattle.std.specs.Prelude.{ℕ, List, [], ◌∷◌, Option}
use Rattle.record_store.specs.Model.{DiskTime, Opening}

pub record DiskValue : Type 0 where
  pub time : DiskTime
  pub opened : Option Opening
  pub faults : ℕ
  -- the numbers of the calls that fail, from 0 on
  pub failing : List ℕ
  -- how many calls there were
  pub calls : ℕ

-- the bytes are on the disk, and nothing was done yet
abbrev pub quiet_time : List ℕ → DiskTime
quiet_time bytes = record { now = record { seen = bytes; synced = bytes; pending = [] }; past = [] }

-- the last first
abbrev pub turned : {A : Type 0} → List A → List A → List A
turned before [] = before
turned before (x ∷ xs) = turned (x ∷ before) xs
