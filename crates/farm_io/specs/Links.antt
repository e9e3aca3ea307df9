-- What making a connection does to a link.
use Rattle.std.specs.Prelude.{◌≡◌, ℕ, ◌≤◌, Result, Ok, Err}
use Rattle.farm_io.specs.Streams.{Rose}
use Rattle.farm_io.specs.Doors.{DoorState, LetsIn}
use Rattle.farm_io.specs.declared.link.LinkErr.{LinkErr}

-- a connection came, the first one of those to come where they are told; or none did
abbrev pub Connects : {N : Type 0} → DoorState N → DoorState N → Result N LinkErr → Type 0
Connects old new (Ok conn) = LetsIn old new conn
Connects old new (Err e) = new ≡ old

-- the count of faults never falls, and rises at each failure
pub record HasCauseConnected {N : Type 0} (before now : ℕ) (result : Result N LinkErr) : Type 0 where
  pub later : before ≤ now
  pub failed : (e : LinkErr) → result ≡ Err e → Rose before now
