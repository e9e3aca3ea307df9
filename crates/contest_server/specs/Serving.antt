-- Where the serving of a contest stands.
use Rattle.std.specs.Prelude.{◌≡◌, ◌≢◌, ℕ, ◌+◌, ◌<◌, ◌≤◌, ◌^◌, ◌⊎◌, List, [], ◌∷◌, ◌++◌, length, map, All, Option, None, Some, Result, Ok, Err}
use Rattle.std.specs.Io.KnownBytes.{Appends}
use mathlib.Core.List.{IsPrefix}
use Rattle.farm_io.specs.Doors.{DoorState, DoesListen, IsFresh, IsEmpty}
use Rattle.farm_io.specs.Streams.{Rose}
use Rattle.farm_board.specs.BoardState.{BoardState}
use Rattle.farm_board.specs.Histories.{IsOpening}
use Rattle.farm_board.specs.Passes.{BoardId, PassValue}
use Rattle.farm_board.specs.declared.entries.Call.{Call}
use Rattle.farm_api.specs.declared.ends.ConnEnd.{ConnEnd}
use Rattle.contest_server.specs.declared.ends.ServeEnd.{ServeEnd}
use Rattle.contest_server.specs.declared.ends.ServeEnd.TheVariants as end
use Rattle.contest_server.specs.declared.lines.TextFault.{TextFault}
use Rattle.contest_server.specs.declared.lines.TextFault.TheVariants as fault
use Rattle.contest_server.specs.declared.accepting.Coming.{Coming}
use Rattle.contest_server.specs.declared.accepting.Coming.TheVariants as coming
use Rattle.contest_server.specs.Visits.{Watch, Start, Visit, IsVisit, conn_lines}
use Rattle.contest_server.specs.Beside.{IsBeside}
use Rattle.contest_server.specs.Texts.{WritesPrefix, HasCauseTold}

-- The door

-- these were the first connections to come, where they are told
abbrev pub Came : {N : Type 0} → Option (List N) → Option (List N) → List N → Type 0
Came None new conns = new ≡ None
Came {N} (Some coming) new conns = (rest : List N) × (coming ≡ conns ++ rest) × (new ≡ Some rest)

-- with these behind those that were given back, where they are told
abbrev pub with_all : {N : Type 0} → Option (List N) → List N → Option (List N)
with_all None conns = None
with_all (Some back) conns = Some (back ++ conns)

abbrev pub all_came : {N : Type 0} → List (Visit N) → List (Start N) → List N
all_came visits starts = map (λ v. v.came) visits ++ map (λ s. s.came) starts

-- the connections came in this order, and those of the visits were given back in it
pub record GivesBack {N : Type 0} (old new : DoorState N) (visits : List (Visit N)) (starts : List (Start N))
    : Type 0 where
  pub came : Came old.coming new.coming (all_came visits starts)
  pub back : new.back ≡ with_all old.back (map (λ v. v.back) visits)
  pub accepted : new.accepted ≡ old.accepted + (length visits + length starts)
  pub returned : new.returned ≡ old.returned + length visits
  pub listens : new.listens ≡ old.listens

-- The desk

-- the door, the opening pass, and the connections that are being served
pub record DeskValue (N : Type 0) : Type 0 where
  pub door : DoorState N
  pub pass : PassValue
  pub starts : List (Start N)

abbrev pub desk_value : {N : Type 0} → DoorState N → PassValue → List (Start N) → DeskValue N
desk_value door pass starts = record { door = door; pass = pass; starts = starts }

-- how many calls the pass of a connection may make; those that it has not made go back when it is taken in
abbrev pub share : ℕ
share = 2 ^ 42

-- a connection as it came, and a pass for it that has made no call
pub record IsReady {N : Type 0} (w : Watch N) (board : BoardId) (s : Start N) : Type 0 where
  pub fresh : IsFresh (w.held s.came) (w.reads s.came) (w.writes s.came)
  pub unused : s.begun.mine ≡ []
  pub board_is : s.begun.board ≡ board
  pub spare : s.begun.spare ≡ 0

-- the passes are of this board, the connections that are being served were accepted and not given back, the door listens,
-- and the opening pass can take them all in, and the feed's, and make a call behind that
pub record IsOrderly {N : Type 0} (w : Watch N) (board : BoardId) (d : DeskValue N) : Type 0 where
  pub board_is : d.pass.board ≡ board
  pub door : d.door.returned + length d.starts ≤ d.door.accepted
  pub listens : DoesListen d.door
  pub ready : All (IsReady w board) d.starts
  pub left : length d.starts + 1 < d.pass.left

-- the desk is still in order, and a connection that is being served has a seat
pub record StaysOrderly {N : Type 0} (w : Watch N) (board : BoardId) (old new : DeskValue N) : Type 0 where
  pub orderly : IsOrderly w board new
  pub seats : new.pass.spare + length new.starts ≡ old.pass.spare + length old.starts

-- What was served and written

-- what the serving began with: the door, the bytes written, the board, the calls by which the contest entered it, and the
-- number of the feed's pass
pub record Opening (N : Type 0) : Type 0 where
  pub door : DoorState N
  pub held : Option (List ℕ)
  pub start : BoardState
  pub calls : List Call
  pub feed : ℕ

-- these connections were served
pub record Stands {N : Type 0} (w : Watch N) (o : Opening N) (visits : List (Visit N)) (d : DeskValue N) : Type 0 where
  pub opening : IsOpening o.start
  pub door : GivesBack o.door d.door visits d.starts
  pub beside : IsBeside o.start o.calls o.feed visits d.starts d.pass
  pub each : All (IsVisit w) visits

-- of n connections that came those that are not being served any more were served, and their lines written
pub record Tells {N : Type 0} (w : Watch N) (o : Opening N) (d : DeskValue N) (held : Option (List ℕ)) (n : ℕ) : Type 0 where
  pub visits : List (Visit N)
  pub stands : Stands w o visits d
  pub count : length visits + length d.starts ≡ n
  pub wrote : Appends o.held held (conn_lines 1 visits)

-- whole lines were written, those of the first of the visits
pub record WritesLines {N : Type 0} (old new : Option (List ℕ)) (visits : List (Visit N)) : Type 0 where
  pub told : List (Visit N)
  pub first : IsPrefix told visits
  pub wrote : Appends old new (conn_lines 1 told)

-- what was written of the visits' lines where one was not: a prefix of them, and where memory was wanting whole lines
abbrev pub WritesSome : {N : Type 0} → TextFault → Option (List ℕ) → Option (List ℕ) → List (Visit N) → Type 0
WritesSome fault.WriteFault old new visits = WritesPrefix old new (conn_lines 1 visits)
WritesSome fault.NoMemory old new visits = WritesLines old new visits

-- of n connections that came those that are not being served any more were served, and their lines written up to one
-- that was not, and why
pub record TellsUpTo {N : Type 0} (w : Watch N) (o : Opening N) (d : DeskValue N) (held : Option (List ℕ)) (n : ℕ)
    (why : TextFault) : Type 0 where
  pub visits : List (Visit N)
  pub stands : Stands w o visits d
  pub count : length visits + length d.starts ≡ n
  pub wrote : WritesSome why o.held held visits

-- One connection

-- one more connection was served, and ended as e
pub record HasTaken {N : Type 0} (w : Watch N) (o : Opening N) (visits : List (Visit N)) (d : DeskValue N) (e : ConnEnd)
    : Type 0 where
  pub last : Visit N
  pub requests : last.requests ≡ e.requests
  pub how : last.how ≡ e.how
  pub stands : Stands w o (visits ++ last ∷ []) d

-- the connection that was accepted first was taken in
pub record TakesFirst {N : Type 0} (w : Watch N) (board : BoardId) (old new : DeskValue N) (e : ConnEnd) : Type 0 where
  pub stays : StaysOrderly w board old new
  pub fewer : length new.starts + 1 ≡ length old.starts
  pub coming : new.door.coming ≡ old.door.coming
  pub taken : (o : Opening N) (visits : List (Visit N)) → Stands w o visits old → HasTaken w o visits new e

-- what is told of n connections that came, and whether the last line was written whole
abbrev pub Told : {N : Type 0} → Watch N → Opening N → DeskValue N → Option (List ℕ) → ℕ → Result (Unit {0}) TextFault
    → Type 0
Told w o d held n (Ok u) = Tells w o d held n
Told w o d held n (Err why) = TellsUpTo w o d held n why

-- the connection that was accepted first was taken in and its line was written, where n connections came
pub record TellsFirst {N : Type 0} (w : Watch N) (board : BoardId) (old new : DeskValue N) (held held' : Option (List ℕ))
    (n : ℕ) (result : Result (Unit {0}) TextFault) : Type 0 where
  pub stays : StaysOrderly w board old new
  pub fewer : length new.starts + 1 ≡ length old.starts
  pub coming : new.door.coming ≡ old.door.coming
  pub told : (o : Opening N) → Tells w o old held n → Told w o new held' n result

-- All that are being served

-- all that are being served were taken in
pub record TakesAll {N : Type 0} (w : Watch N) (board : BoardId) (old new : DeskValue N) : Type 0 where
  pub stays : StaysOrderly w board old new
  pub none : new.starts ≡ []
  pub coming : new.door.coming ≡ old.door.coming
  pub taken : (o : Opening N) (visits : List (Visit N)) → Stands w o visits old
      → (more : List (Visit N)) × (length more ≡ length old.starts) × Stands w o (visits ++ more) new

abbrev pub IfTold : {N : Type 0} → Result (Unit {0}) TextFault → List (Start N) → Type 0
IfTold (Ok u) starts = starts ≡ []
IfTold (Err why) starts = Unit {0}

-- all that are being served were taken in and told, up to a line that was not written whole, where n connections came
pub record TellsAll {N : Type 0} (w : Watch N) (board : BoardId) (old new : DeskValue N) (held held' : Option (List ℕ))
    (n : ℕ) (result : Result (Unit {0}) TextFault) : Type 0 where
  pub stays : StaysOrderly w board old new
  pub none : IfTold result new.starts
  pub coming : new.door.coming ≡ old.door.coming
  pub told : (o : Opening N) → Tells w o old held n → Told w o new held' n result

-- some that are being served were taken in and told, the first ones first, up to a line that was not written whole
pub record TellsSome {N : Type 0} (w : Watch N) (board : BoardId) (old new : DeskValue N) (held held' : Option (List ℕ))
    (n : ℕ) (result : Result (Unit {0}) TextFault) : Type 0 where
  pub stays : StaysOrderly w board old new
  pub fewer : length new.starts ≤ length old.starts
  pub coming : new.door.coming ≡ old.door.coming
  pub told : (o : Opening N) → Tells w o old held n → Told w o new held' n result

-- The next one

-- there is room for one more: those that have ended were taken in and told as far as their turn had come, and where there
-- was no room yet, the connection that was accepted first was waited for
pub record MakesRoom {N : Type 0} (w : Watch N) (board : BoardId) (old new : DeskValue N) (held held' : Option (List ℕ))
    (n : ℕ) (result : Result (Unit {0}) TextFault) : Type 0 where
  pub stays : StaysOrderly w board old new
  pub fewer : length new.starts ≤ length old.starts
  pub told : (o : Opening N) → Tells w o old held n → Told w o new held' n result

abbrev pub with_coming : ℕ → Coming → ℕ
with_coming n coming.Conn = n + 1
with_coming n coming.End = n
with_coming n coming.Failed = n

-- no connection is left to come, where none came
abbrev pub IfEnded : {N : Type 0} → Option (List N) → Coming → Type 0
IfEnded left coming.Conn = Unit {0}
IfEnded left coming.End = IsEmpty left
IfEnded left coming.Failed = Unit {0}

-- the door was asked for a connection, which is being served where it came
pub record AcceptsNext {N : Type 0} (w : Watch N) (board : BoardId) (old new : DeskValue N) (result : Coming) : Type 0 where
  pub stays : StaysOrderly w board old new
  pub more : length new.starts ≤ with_coming (length old.starts) result
  pub ended : IfEnded new.door.coming result
  pub told : (o : Opening N) (held : Option (List ℕ)) (n : ℕ) → Tells w o old held n
      → Tells w o new held (with_coming n result)

abbrev pub with_next : ℕ → Result Coming TextFault → ℕ
with_next n (Ok c) = with_coming n c
with_next n (Err why) = n

abbrev pub ToldNext : {N : Type 0} → Watch N → Opening N → DeskValue N → Option (List ℕ) → ℕ → Result Coming TextFault
    → Type 0
ToldNext w o d held n (Ok c) = Tells w o d held (with_coming n c)
ToldNext w o d held n (Err why) = TellsUpTo w o d held n why

abbrev pub IfNextEnded : {N : Type 0} → Option (List N) → Result Coming TextFault → Type 0
IfNextEnded left (Ok c) = IfEnded left c
IfNextEnded left (Err why) = Unit {0}

-- room was made for a connection, and the door was asked for it; where it came it is being served
pub record ServesNext {N : Type 0} (w : Watch N) (board : BoardId) (old new : DeskValue N) (held held' : Option (List ℕ))
    (n : ℕ) (result : Result Coming TextFault) : Type 0 where
  pub stays : StaysOrderly w board old new
  pub more : length new.starts ≤ with_next (length old.starts) result
  pub ended : IfNextEnded new.door.coming result
  pub told : (o : Opening N) → Tells w o old held n → ToldNext w o new held' n result

-- The count of the door's faults never falls, and rises where it failed. The count of the sink's faults never falls,
-- and rises where a text could not be put, and at nothing else.
pub record HasCauseNext (door door' out out' : ℕ) (result : Result Coming TextFault) : Type 0 where
  pub door_later : door ≤ door'
  pub out_later : out ≤ out'
  pub door_failed : result ≡ Ok coming.Failed → Rose door door'
  pub out_failed : result ≡ Err fault.WriteFault → Rose out out'
  pub out_kept : result ≢ Err fault.WriteFault → out' ≡ out

-- n connections came since the desk `first`
pub record IsUnderWay {N : Type 0} (w : Watch N) (board : BoardId) (first now : DeskValue N) (held held' : Option (List ℕ))
    (n : ℕ) : Type 0 where
  pub stays : StaysOrderly w board first now
  pub few : length now.starts ≤ length first.starts + n
  pub told : (o : Opening N) → Tells w o first held 0 → Tells w o now held' n

-- The end

-- the lines of the visits were written, or some of them where the serving ended for that
abbrev pub Wrote : {N : Type 0} → ServeEnd → Option (List ℕ) → Option (List ℕ) → List (Visit N) → Type 0
Wrote end.Done old new visits = Appends old new (conn_lines 1 visits)
Wrote end.DoorFault old new visits = Appends old new (conn_lines 1 visits)
Wrote end.WriteFault old new visits = WritesSome fault.WriteFault old new visits
Wrote end.NoMemory old new visits = WritesSome fault.NoMemory old new visits

-- the end where a text was not written whole
abbrev pub end_of : TextFault → ServeEnd
end_of fault.WriteFault = end.WriteFault
end_of fault.NoMemory = end.NoMemory

abbrev pub end_after : ServeEnd → Result (Unit {0}) TextFault → ServeEnd
end_after e (Ok u) = e
end_after e (Err why) = end_of why

-- the lines of all that were being served were written, and the serving ended as e; or one was not written whole
pub record EndsWith {N : Type 0} (w : Watch N) (board : BoardId) (old new : DeskValue N) (held held' : Option (List ℕ))
    (faults faults' n : ℕ) (e result : ServeEnd) : Type 0 where
  pub told : Result (Unit {0}) TextFault
  pub is : result ≡ end_after e told
  pub tells : TellsAll w board old new held held' n told
  pub cause : HasCauseTold faults faults' told

-- no connection is being served any more, where all lines were written
abbrev pub IfWhole : {N : Type 0} → ServeEnd → List (Start N) → Type 0
IfWhole end.Done starts = starts ≡ []
IfWhole end.DoorFault starts = starts ≡ []
IfWhole end.WriteFault starts = Unit {0}
IfWhole end.NoMemory starts = Unit {0}

-- at most `most` connections came; where all was done, `most` were served, or none is left to come
pub record Rests {N : Type 0} (w : Watch N) (o : Opening N) (d : DeskValue N) (held : Option (List ℕ)) (most : ℕ)
    (e : ServeEnd) : Type 0 where
  pub visits : List (Visit N)
  pub stands : Stands w o visits d
  pub few : length visits + length d.starts ≤ most
  pub wrote : Wrote e o.held held visits
  pub done : e ≡ end.Done → (length visits ≡ most) ⊎ IsEmpty d.door.coming

-- as many connections were served as came, up to a line that was not written whole
pub record ServesAll {N : Type 0} (w : Watch N) (board : BoardId) (old new : DeskValue N) (held held' : Option (List ℕ))
    (most : ℕ) (e : ServeEnd) : Type 0 where
  pub stays : StaysOrderly w board old new
  pub whole : IfWhole e new.starts
  pub rests : (o : Opening N) → Tells w o old held 0 → Rests w o new held' most e

-- as many connections were served as came, up to a line that was not written whole, and none is being served any more
pub record ServesLanes {N : Type 0} (w : Watch N) (board : BoardId) (old new : DeskValue N) (held held' : Option (List ℕ))
    (most : ℕ) (e : ServeEnd) : Type 0 where
  pub orderly : IsOrderly w board new
  pub rests : (o : Opening N) → Tells w o old held 0 → Rests w o new held' most e

-- The count of the door's faults never falls, and rises where it failed. That of the sink's never falls, and rises where a
-- text could not be put, and at nothing else.
pub record HasCauseEnd (door door' out out' : ℕ) (e : ServeEnd) : Type 0 where
  pub door_later : door ≤ door'
  pub out_later : out ≤ out'
  pub door_failed : e ≡ end.DoorFault → Rose door door'
  pub out_failed : e ≡ end.WriteFault → Rose out out'
  pub out_kept : e ≢ end.WriteFault → out' ≡ out
