-- What doors over memory stand for.
use Rattle.std.specs.Prelude.{◌≡◌, ℕ, ◌+◌, List, [], ◌∷◌, length, Option, Some}
use Rattle.farm_io.specs.Doors.{DoorState, IsFresh}
use Rattle.farm_io.specs.MemoryValue.{SourceValue, SinkValue, RoomValue}
use Rattle.farm_io.specs.declared.connections.Connection.{Connection}
use Rattle.farm_io.specs.declared.door.Accepted.{Accepted}
use Rattle.farm_io.specs.declared.door.Listening.{Listening}
use Rattle.farm_io.specs.declared.door.Accepted.TheVariants as came

-- a door that fails at listed calls
pub record DoorValue : Type 0 where
  -- the connections that are still to come, and those that were given back
  pub coming : List (Connection SourceValue SinkValue)
  pub back : List (Connection SourceValue SinkValue)
  -- how many were accepted
  pub accepted : ℕ
  -- where it listens, if it does
  pub listens : Option Listening
  -- the numbers of the calls that fail
  pub failing : List ℕ
  -- how often it was called, and how often it failed
  pub calls : ℕ
  pub faults : ℕ

-- a door that never fails
pub record ReliableDoorValue : Type 0 where
  -- the connections that are still to come, and those that were given back
  pub coming : List (Connection (List ℕ) RoomValue)
  pub back : List (Connection (List ℕ) RoomValue)
  -- how many were accepted
  pub accepted : ℕ
  -- where it listens, if it does
  pub listens : Option Listening

-- all of them are told
abbrev pub told : {N : Type 0} → List N → List N → ℕ → Option Listening → DoorState N
told coming back accepted listens = record {
  coming = Some coming;
  back = Some back;
  accepted = accepted;
  returned = length back;
  listens = listens;
}

abbrev pub door_state : DoorValue → DoorState (Connection SourceValue SinkValue)
door_state d = told d.coming d.back d.accepted d.listens

abbrev pub reliable_state : ReliableDoorValue → DoorState (Connection (List ℕ) RoomValue)
reliable_state d = told d.coming d.back d.accepted d.listens

-- nothing was done on the connection
abbrev pub IsNew : Connection SourceValue SinkValue → Type 0
IsNew c = IsFresh (Some c.sink.held) c.source.faults c.sink.faults

abbrev pub IsReliableNew : Connection (List ℕ) RoomValue → Type 0
IsReliableNew c = IsFresh (Some c.sink.held) 0 c.sink.faults

-- the first one to come is let in, or none is left
abbrev pub TakesFirst : {N : Type 0} → List N → List N → ℕ → ℕ → Accepted N → Type 0
TakesFirst old new before now (came.Conn conn) = (old ≡ conn ∷ new) × (now ≡ before + 1)
TakesFirst old new before now came.End = (old ≡ []) × (new ≡ []) × (now ≡ before)
TakesFirst old new before now came.Failed = ⊥
