-- How the serving of a contest ends.
use Rattle.std.specs.Prelude.{◌≡◌, ◌⊎◌, ℕ, Bool, false, List, Option, Ok}
use Rattle.std.specs.declared.net.ip_addr.IpAddr.{IpAddr}
use Rattle.farm_tree.specs.declared.reads.TreeFile.{TreeFile}
use Rattle.farm_io.specs.declared.door.Listening.{Listening}
use Rattle.farm_io.specs.Doors.{DoorState, listening_at}
use Rattle.farm_model.specs.State.{start}
use Rattle.farm_board.specs.Histories.{opening_board}
use Rattle.contest_folder.specs.RosterValue.{RosterValue}
use Rattle.contest_folder.specs.JudgingCases.{case_at}
use Rattle.contest_server.specs.declared.ends.ServeEnd.{ServeEnd}
use Rattle.contest_server.specs.declared.ends.ServeEnd.TheVariants as end
use Rattle.contest_server.specs.Contest.{entering_events, seats, view_of}
use Rattle.contest_server.specs.Visits.{Watch, on_board}
use Rattle.contest_server.specs.Served.{Serves}
use Rattle.exit_status.specs.declared.exit.Exit.{Exit}
use Rattle.exit_status.specs.declared.exit.Exit.TheVariants as exit
use Rattle.judge_commands.specs.Judged.{ContestIs, Writes, WritesPrefix, IsFaultLine}

-- what is told of connections and of the clock by which they are served, and the door to which they come, before a
-- command and after it
pub record DoorUse (N : Type 0) : Type 1 where
  pub watch : Watch N
  pub old : DoorState N
  pub new : DoorState N

-- The folder is a contest, and it was served over the connections that came to a door that listened there: one legal
-- history stands behind all that was answered and written, and jobs are of the contest's cases.
pub record IsServed {N : Type 0} (files : Option (List TreeFile)) (folder : List ℕ) (at : Listening)
    (lanes connections : ℕ) (door : DoorUse N) (held held' : Option (List ℕ)) (e : ServeEnd) : Type 0 where
  pub roster : RosterValue
  pub read : ContestIs files folder (Ok roster)
  pub serves : Serves
      (on_board (opening_board (start roster.settings) (seats lanes) false) (case_at roster) (view_of roster) door.watch)
      (opening_board (start roster.settings) (seats lanes) false)
      (entering_events roster) (listening_at door.old at) door.new held held' connections e

-- where a door is to listen, and how patient it is to be, by the words of the command
abbrev pub listening_of : IpAddr → ℕ → ℕ → Bool → Listening
listening_of address port patience until_input_ends = record {
  address = address;
  port = port;
  patience = patience;
  until_input_ends = until_input_ends;
}

-- how a command ends whose serving had this end
abbrev pub exit_of : ServeEnd → Exit
exit_of end.Done = exit.Done
exit_of end.DoorFault = exit.DoorFault
exit_of end.WriteFault = exit.WriteFault
exit_of end.NoMemory = exit.Memory

-- no connection was asked for
abbrev pub IsUnasked : {N : Type 0} → DoorUse N → Type 0
IsUnasked door = door.new ≡ door.old

-- How it ends. `unwritten` says that the output is as it was.
abbrev pub ServeEnds : {N : Type 0} → Option (List TreeFile) → List ℕ → Listening → ℕ → ℕ → DoorUse N
    → Option (List ℕ) → Option (List ℕ) → Type 0 → Exit → Type 0
ServeEnds files folder at lanes connections door held held' unwritten exit.Done =
    IsServed files folder at lanes connections door held held' end.Done
ServeEnds files folder at lanes connections door held held' unwritten exit.Usage = ⊥
ServeEnds files folder at lanes connections door held held' unwritten exit.BadContest =
    IsUnasked door × Writes (IsFaultLine files folder) held held'
ServeEnds files folder at lanes connections door held held' unwritten exit.ReadFault = ⊥
ServeEnds files folder at lanes connections door held held' unwritten exit.WriteFault =
    IsServed files folder at lanes connections door held held' end.WriteFault
    ⊎ (IsUnasked door × WritesPrefix (IsFaultLine files folder) held held')
ServeEnds files folder at lanes connections door held held' unwritten exit.Memory =
    IsServed files folder at lanes connections door held held' end.NoMemory ⊎ (IsUnasked door × unwritten)
ServeEnds files folder at lanes connections door held held' unwritten exit.TreeFault = IsUnasked door × unwritten
ServeEnds files folder at lanes connections door held held' unwritten exit.DoorFault =
    IsServed files folder at lanes connections door held held' end.DoorFault ⊎ (IsUnasked door × unwritten)
ServeEnds files folder at lanes connections door held held' unwritten exit.InputLimit = ⊥
ServeEnds files folder at lanes connections door held held' unwritten exit.LinkFault = ⊥
ServeEnds files folder at lanes connections door held held' unwritten (exit.BadAnswer answer) = ⊥
ServeEnds files folder at lanes connections door held held' unwritten exit.StoreFault = ⊥
ServeEnds files folder at lanes connections door held held' unwritten (exit.BadStore flaw) = ⊥
ServeEnds files folder at lanes connections door held held' unwritten (exit.StoreFull mark) = ⊥
