-- What is told of a store whose first record is of this configuration.
use Rattle.std.proofs.Common.{◌≡◌, ℕ, ◌+◌, ◌<◌, Bool, true, List, [], ◌∷◌, length, take, Some, Ok, Err}
use Rattle.std.specs.Str.{bytes_eq}
use Rattle.record_store.specs.Held.{IsRecordPrefix}
use Rattle.farm_model.specs.State.{State}
use Rattle.stored_events.specs.Opening.{config_of, opened_of}
use Rattle.stored_events.specs.Replaying.{FailsAt}
use Rattle.stored_events.specs.declared.faults.OpenFault.{OpenFault}
use Rattle.stored_events.specs.declared.faults.OpenFault.TheVariants as fault
use Rattle.stored_events.proofs.Openings.{opened_failed}
use Rattle.farm_journal.specs.Faults.{IsTold}

pub told_so : (digest : List ℕ) (s : State) (file line kept : List ℕ) (n : ℕ) (f : OpenFault) → IsRecordPrefix (take n file) (line ∷ []) → n < length file → config_of line ≡ Some kept → bytes_eq kept digest ≡ true
    → FailsAt file (line ∷ []) s f → IsTold f (opened_of digest s file)
told_so digest s file line kept n fault.Disk first inside some same failed = tt
told_so digest s file line kept n (fault.OtherConfig other) first inside some same failed = absurd failed
told_so digest s file line kept n (fault.BadRecord number) first inside some same failed = opened_failed digest s file line kept n number first inside some same failed
told_so digest s file line kept n fault.NoMemory first inside some same failed = tt
