-- Where the reading of a store stands.
use Rattle.std.specs.Prelude.{◌≡◌, ℕ, List, ◌++◌, take, Ok, Err}
use Rattle.record_store.specs.Held.{held, IsRecordPrefix, IsRead}
use Rattle.farm_model.specs.State.{State}
use Rattle.stored_events.specs.Opening.{replayed}
use Rattle.stored_events.specs.declared.faults.OpenFault.{OpenFault}
use Rattle.stored_events.specs.declared.faults.OpenFault.TheVariants as fault

-- the lines behind these, which are all that the file holds, lead from the first state to the second one
pub record ReplaysTo (file : List ℕ) (prefix : List (List ℕ)) (old new : State) (end : ℕ) : Type 0 where
  pub lines : List (List ℕ)
  pub read : IsRead file end (prefix ++ lines)
  pub played : replayed old 2 lines ≡ Ok new

-- one of the lines behind these, the record of this number, is no event that is stored
pub record FailsAtRecord (file : List ℕ) (prefix : List (List ℕ)) (old : State) (number : ℕ) : Type 0 where
  pub lines : List (List ℕ)
  pub holds : held file ≡ prefix ++ lines
  pub failed : replayed old 2 lines ≡ Err (fault.BadRecord number)

abbrev pub FailsAt : List ℕ → List (List ℕ) → State → OpenFault → Type 0
FailsAt file prefix old fault.Disk = Unit {0}
FailsAt file prefix old (fault.OtherConfig kept) = ⊥
FailsAt file prefix old (fault.BadRecord number) = FailsAtRecord file prefix old number
FailsAt file prefix old fault.NoMemory = Unit {0}

-- the records up to the offset were played, and the next one has this number
pub record PlayedTo (file : List ℕ) (prefix : List (List ℕ)) (old : State) (at : ℕ) (now : State) (number : ℕ) : Type 0 where
  pub lines : List (List ℕ)
  pub stands : IsRecordPrefix (take at file) (prefix ++ lines)
  pub goes_on : (rest : List (List ℕ)) → replayed old 2 (lines ++ rest) ≡ replayed now number rest
