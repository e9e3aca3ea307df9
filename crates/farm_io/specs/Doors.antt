-- The connections of a door, and what each call does to them.
use Rattle.std.specs.Prelude.{◌≡◌, ℕ, ◌+◌, ◌≤◌, List, [], ◌∷◌, ◌++◌, Option, None, Some, Result, Ok, Err, IfSome, IsSome, ⊤}
use Rattle.farm_io.specs.Streams.{Rose}
use Rattle.farm_io.specs.declared.door.Accepted.{Accepted}
use Rattle.farm_io.specs.declared.door.Accepted.TheVariants as came
use Rattle.farm_io.specs.declared.door.DoorErr.{DoorErr}
use Rattle.farm_io.specs.declared.door.Listening.{Listening}

pub record DoorState (N : Type 0) : Type 0 where
  -- the connections that are still to come, where the door tells them
  pub coming : Option (List N)
  -- those that were given back, where the door tells them
  pub back : Option (List N)
  -- how many were accepted, and how many given back
  pub accepted : ℕ
  pub returned : ℕ
  -- where it listens, and how long it waits for those who say nothing, if it listens
  pub listens : Option Listening

-- it listens somewhere
abbrev pub DoesListen : {N : Type 0} → DoorState N → Type 0
DoesListen d = IsSome d.listens

-- the door d, which listens as `at` says
abbrev pub listening_at : {N : Type 0} → DoorState N → Listening → DoorState N
listening_at d at = record {
  coming = d.coming;
  back = d.back;
  accepted = d.accepted;
  returned = d.returned;
  listens = Some at;
}

-- it listens as it was asked to, and nothing else changed; or nothing did
abbrev pub Listens : {N : Type 0} → DoorState N → DoorState N → Listening → Result (Unit {0}) DoorErr → Type 0
Listens old new at (Ok u) = new ≡ listening_at old at
Listens old new at (Err why) = new ≡ old

-- the first one of those to come, where they are told
abbrev pub IsFirstOf : {N : Type 0} → Option (List N) → Option (List N) → N → Type 0
IsFirstOf None new conn = new ≡ None
IsFirstOf {N} (Some conns) new conn = (rest : List N) × (conns ≡ conn ∷ rest) × (new ≡ Some rest)

-- one more behind those that were given back, where they are told
abbrev pub with_last : {N : Type 0} → Option (List N) → N → Option (List N)
with_last None conn = None
with_last (Some conns) conn = Some (conns ++ conn ∷ [])

-- the first one to come was accepted
pub record LetsIn {N : Type 0} (old new : DoorState N) (conn : N) : Type 0 where
  pub first : IsFirstOf old.coming new.coming conn
  pub back : new.back ≡ old.back
  pub accepted : new.accepted ≡ old.accepted + 1
  pub returned : new.returned ≡ old.returned
  pub listens : new.listens ≡ old.listens

-- the connection was given back, as the last so far
pub record TakesBack {N : Type 0} (old new : DoorState N) (conn : N) : Type 0 where
  pub coming : new.coming ≡ old.coming
  pub back : new.back ≡ with_last old.back conn
  pub accepted : new.accepted ≡ old.accepted
  pub returned : new.returned ≡ old.returned + 1
  pub listens : new.listens ≡ old.listens

-- no connection is left to come, where they are told
abbrev pub IsEmpty : {N : Type 0} → Option (List N) → Type 0
IsEmpty coming = IfSome coming (λ conns. conns ≡ [])

abbrev pub Accepts : {N : Type 0} → DoorState N → DoorState N → Accepted N → Type 0
Accepts old new (came.Conn conn) = LetsIn old new conn
Accepts old new came.End = IsEmpty old.coming × (new ≡ old)
Accepts old new came.Failed = new ≡ old

-- what was accepted meets this
abbrev pub IfConn : {N : Type 0} → Accepted N → (N → Type 0) → Type 0
IfConn (came.Conn conn) P = P conn
IfConn came.End P = ⊤
IfConn came.Failed P = ⊤

-- nothing was put on the connection, and neither side has failed
pub record IsFresh (held : Option (List ℕ)) (read_faults write_faults : ℕ) : Type 0 where
  pub none : IfSome held (λ bytes. bytes ≡ [])
  pub reads : read_faults ≡ 0
  pub writes : write_faults ≡ 0

abbrev pub IsFailed : {N : Type 0} → Accepted N → Type 0
IsFailed (came.Conn conn) = ⊥
IsFailed came.End = ⊥
IsFailed came.Failed = ⊤

-- the count of faults never falls, and rises at each failure
pub record HasCauseAccepted {N : Type 0} (before now : ℕ) (result : Accepted N) : Type 0 where
  pub later : before ≤ now
  pub failed : IsFailed result → Rose before now

-- the count of faults never falls, and rises where the door cannot listen
pub record HasCauseListening (before now : ℕ) (result : Result (Unit {0}) DoorErr) : Type 0 where
  pub later : before ≤ now
  pub failed : (e : DoorErr) → result ≡ Err e → Rose before now
