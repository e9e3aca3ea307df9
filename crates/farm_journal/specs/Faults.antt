-- When an opening fails.
use Rattle.std.specs.Prelude.{◌≡◌, ◌≤◌, ℕ, List, Result, Ok, Err, IsErrOf}
use Rattle.record_store.specs.Model.{Rose}
use Rattle.farm_model.specs.State.{State}
use Rattle.stored_events.specs.declared.faults.OpenFault.{OpenFault}
use Rattle.stored_events.specs.declared.faults.OpenFault.TheVariants as fault

-- the count of faults never falls, and has risen where the disk failed
pub record HasOpenCause {A : Type 0} (before now : ℕ) (result : Result A OpenFault) : Type 0 where
  pub later : before ≤ now
  pub failed : IsErrOf result fault.Disk → Rose before now

-- the fault is the file's own, and neither the disk's nor want of memory
abbrev pub IsTold : OpenFault → Result State OpenFault → Type 0
IsTold fault.Disk opened = Unit {0}
IsTold fault.NoMemory opened = Unit {0}
IsTold (fault.OtherConfig kept) opened = opened ≡ Err (fault.OtherConfig kept)
IsTold (fault.BadRecord number) opened = opened ≡ Err (fault.BadRecord number)

-- the fault is the file's own
abbrev pub IsOfFile : OpenFault → Type 0
IsOfFile fault.Disk = ⊥
IsOfFile fault.NoMemory = ⊥
IsOfFile (fault.OtherConfig kept) = Unit {0}
IsOfFile (fault.BadRecord number) = Unit {0}
