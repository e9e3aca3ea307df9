-- What is known once a contest was served.
use Rattle.std.specs.Prelude.{◌≡◌, ◌≢◌, ℕ, ◌≤◌, ◌⊎◌, true, false, List, [], ◌∷◌, ◌++◌, length, All, Option, None, Some, Result, Err}
use Rattle.std.specs.Io.KnownBytes.{Appends}
use mathlib.Core.List.{IsPrefix}
use Rattle.farm_io.specs.Doors.{DoorState, IsEmpty}
use Rattle.farm_kinds.specs.declared.events.Event.{Event}
use Rattle.farm_kinds.specs.declared.events.Event.TheVariants as event
use Rattle.farm_kinds.specs.declared.events.Reply.{Reply}
use Rattle.farm_kinds.specs.declared.events.Reply.TheVariants as reply
use Rattle.farm_model.specs.Farm.{farm_step}
use Rattle.farm_model.specs.Texts.{reply_text}
use Rattle.farm_board.specs.BoardState.{BoardState}
use Rattle.farm_board.specs.Histories.{is_in, IsLegal, board_after, entries_by}
use Rattle.farm_board.specs.Passes.{PassValue, Calls, TakesIn, call_of}
use Rattle.farm_board.specs.declared.entries.Call.{Call}
use Rattle.farm_board.specs.declared.entries.HistoryEntry.{HistoryEntry}
use Rattle.farm_board.specs.declared.entries.HistoryEntry.TheVariants as entry
use Rattle.judge_feed.specs.Showing.{are_looks}
use Rattle.parallel_judge.specs.Hosts.{as_entries, AreEffective}
use Rattle.parallel_judge.specs.Journal.{events_in}
use Rattle.contest_server.specs.declared.ends.ServeEnd.{ServeEnd}
use Rattle.contest_server.specs.declared.ends.ServeEnd.TheVariants as end
use Rattle.contest_server.specs.declared.lines.TextFault.{TextFault}
use Rattle.contest_server.specs.declared.lines.TextFault.TheVariants as fault
use Rattle.contest_server.specs.Visits.{Watch, Visit, IsVisit, conn_lines}
use Rattle.contest_server.specs.Beside.{AreAbove, visit_numbers}
use Rattle.contest_server.specs.Texts.{WritesPrefix, PutsText, HasCauseTold}
use Rattle.contest_server.specs.Serving.{GivesBack, WritesLines, end_after}

-- The last board

-- the reply to the last `board`, where it was asked for
abbrev pub board_calls : Option Reply → List Call
board_calls None = []
board_calls (Some r) = call_of 0 event.Board r ∷ []

abbrev pub board_text : Option Reply → List ℕ
board_text None = []
board_text (Some r) = reply_text r

-- The history ends with the last `board`. Unless memory ran out, its reply is the farm's after all before it
pub record EndsWithBoard (start : BoardState) (history : List HistoryEntry) (r : Reply) : Type 0 where
  pub before : List HistoryEntry
  pub whole : history ≡ before ++ as_entries (board_calls (Some r))
  pub answer : r ≢ reply.NoMemory → r ≡ (farm_step (board_after start before).state event.Board).1

-- where all was done, the farm has answered the last `board`; where the door failed, it was not asked for; and where
-- the output failed, the farm did not answer that memory was wanting
abbrev pub IsAsked : ServeEnd → Option Reply → Type 0
IsAsked end.Done board = (r : Reply) × (board ≡ Some r) × (r ≢ reply.NoMemory)
IsAsked end.DoorFault board = board ≡ None
IsAsked end.WriteFault board = board ≢ Some reply.NoMemory
IsAsked end.NoMemory board = Unit {0}

-- The history

abbrev pub calls_in : List HistoryEntry → List Call
calls_in [] = []
calls_in (entry.Call call ∷ es) = call ∷ calls_in es
calls_in (entry.Split number new ∷ es) = calls_in es
calls_in (entry.Join number old ∷ es) = calls_in es

-- the entries of the visit's pass are its calls
abbrev pub HasCalls : {N : Type 0} → List HistoryEntry → Visit N → Type 0
HasCalls history v = entries_by v.begun.number history ≡ v.ended.mine

-- A legal history that begins with the calls by which the contest enters. Beside these and the last `board`, all of its
-- calls are those of the visits, and those of the feed of the public board, which only looks, by passes with numbers of
-- their own.
pub record IsHistory {N : Type 0} (start : BoardState) (events : List Event) (visits : List (Visit N))
    (board : Option Reply) (history : List HistoryEntry) : Type 0 where
  pub calls : List Call
  pub enters : events_in calls ≡ events
  pub effective : AreEffective calls
  pub begins : IsPrefix (as_entries calls) history
  pub legal : IsLegal start history
  pub opening : calls_in (entries_by 0 history) ≡ calls ++ board_calls board
  pub own : All (HasCalls history) visits
  pub feed : ℕ
  pub looks : are_looks (entries_by feed history) ≡ true
  pub numbers : AreAbove 0 (feed ∷ visit_numbers visits)
  pub others : (n : ℕ) → n ≢ 0 → is_in n (feed ∷ visit_numbers visits) ≡ false → entries_by n history ≡ []
  pub ends : (r : Reply) → board ≡ Some r → EndsWithBoard start history r

-- the last `board` was asked for, and its text written, unless the answer was want of memory
pub record ShowsBoard (old new : PassValue) (held held' : Option (List ℕ)) (faults faults' : ℕ) (e : ServeEnd)
    : Type 0 where
  pub answer : Reply
  pub calls : Calls old new event.Board answer
  pub told : Result (Unit {0}) TextFault
  pub is : e ≡ end_after end.Done told
  pub puts : PutsText held held' (reply_text answer) told
  pub known : answer ≡ reply.NoMemory → told ≡ Err fault.NoMemory
  pub cause : HasCauseTold faults faults' told

-- the last `board` was asked for where all was done, and else nothing was written
abbrev pub HasShown : PassValue → Option (List ℕ) → Option (List ℕ) → ℕ → ℕ → ServeEnd → ServeEnd → Type 0
HasShown whole held held' faults faults' e result =
    ((e ≡ end.Done) × ((new : PassValue) × ShowsBoard whole new held held' faults faults' result))
    ⊎ ((e ≢ end.Done) × (result ≡ e) × (held' ≡ held) × (faults' ≡ faults))

-- the feed's pass was taken in; where all was done, the last `board` was asked for behind that
pub record Finishes (old own : PassValue) (held held' : Option (List ℕ)) (faults faults' : ℕ) (e result : ServeEnd)
    : Type 0 where
  pub whole : PassValue
  pub takes : TakesIn old own whole
  pub ends : HasShown whole held held' faults faults' e result

-- What was written of the visits' lines and of the text of the last `board` behind them. Where memory was wanting these
-- are whole lines, and all of them where the board was asked for.
abbrev pub HasWritten : {N : Type 0} → ServeEnd → Option (List ℕ) → Option (List ℕ) → List (Visit N) → Option Reply
    → Type 0
HasWritten end.Done old new visits board = Appends old new (conn_lines 1 visits ++ board_text board)
HasWritten end.DoorFault old new visits board = Appends old new (conn_lines 1 visits ++ board_text board)
HasWritten end.WriteFault old new visits board = WritesPrefix old new (conn_lines 1 visits ++ board_text board)
HasWritten end.NoMemory old new visits None = WritesLines old new visits
HasWritten end.NoMemory old new visits (Some r) = Appends old new (conn_lines 1 visits)

-- connections were served, on a board that began as `start` and that the contest has entered by the events `events`
pub record HasServed {N : Type 0} (w : Watch N) (start : BoardState) (events : List Event) (door door' : DoorState N)
    (held held' : Option (List ℕ)) (most : ℕ) (e : ServeEnd) : Type 0 where
  pub visits : List (Visit N)
  pub each : All (IsVisit w) visits
  pub back : GivesBack door door' visits []
  pub few : length visits ≤ most
  pub done : e ≡ end.Done → (length visits ≡ most) ⊎ IsEmpty door'.coming
  pub board : Option Reply
  pub asked : IsAsked e board
  pub history : List HistoryEntry
  pub stands : IsHistory start events visits board history
  pub wrote : HasWritten e held held' visits board

-- connections were served, as `HasServed` says; or memory ran out before any connection was asked for
abbrev pub Serves : {N : Type 0} → Watch N → BoardState → List Event → DoorState N → DoorState N
    → Option (List ℕ) → Option (List ℕ) → ℕ → ServeEnd → Type 0
Serves w start events door door' held held' most end.NoMemory =
    ((door' ≡ door) × (held' ≡ held)) ⊎ HasServed w start events door door' held held' most end.NoMemory
Serves w start events door door' held held' most end.Done =
    HasServed w start events door door' held held' most end.Done
Serves w start events door door' held held' most end.DoorFault =
    HasServed w start events door door' held held' most end.DoorFault
Serves w start events door door' held held' most end.WriteFault =
    HasServed w start events door door' held held' most end.WriteFault
