-- What a command does, and how it ends.
use Rattle.std.specs.Prelude.{ℕ, List, Option, Some, None, option_map, ⊤}
use Rattle.farm_tree.specs.declared.reads.TreeFile.{TreeFile}
use Rattle.command_line.specs.CommandLine.{CommandValue, Script, Store, Judge, Make, Serve, Host}
use Rattle.exit_status.specs.declared.exit.Exit.{Exit}
use Rattle.script_commands.specs.Scripted.{Streams, ScriptEnds, ScriptIsDone}
use Rattle.judge_commands.specs.Judged.{JudgeEnds, ContestIsDone}
use Rattle.judge_commands.specs.Making.{MakeEnds, MakeIsDone}
use Rattle.farm_cli.specs.ServedContest.{DoorUse, listening_of, ServeEnds}
use Rattle.script_commands.specs.Stored.{StoreUse, StoredEnds, StoredIsDone, ListEnds, ListIsDone}
use Rattle.farm_cli.specs.Hosting.{LinkUse, HostEnds, HostIsDone}

-- how a command ends
abbrev pub CommandEnds : {N M : Type 0} → Option (List TreeFile) → CommandValue → DoorUse N → LinkUse M → StoreUse
    → Streams → Streams → Type 0 → Type 0 → Exit → Type 0
CommandEnds files (Script config None) door link store old new unread unwritten e =
    ScriptEnds files config old new unread unwritten e
CommandEnds files (Script config (Some path)) door link store old new unread unwritten e =
    StoredEnds files config path store old new unread unwritten e
CommandEnds files (Store path) door link store old new unread unwritten e =
    unread × ListEnds path store old.held new.held e
CommandEnds files (Judge folder hosts journal) door link store old new unread unwritten e =
    unread × JudgeEnds files folder hosts journal old.held new.held unwritten e
CommandEnds files (Make number size) door link store old new unread unwritten e =
    unread × MakeEnds number size old.held new.held unwritten e
CommandEnds files (Serve folder address port lanes connections patience until_input_ends) door link store old new unread unwritten e =
    unread × ServeEnds files folder (listening_of address port patience until_input_ends) lanes connections door old.held
    new.held unwritten e
CommandEnds files (Host address port name fuel wait login) door link store old new unread unwritten e =
    unread × HostEnds files link name wait login fuel old.held new.held unwritten e

-- the path of the file or the folder that a command reads, where it reads one
abbrev pub file_of : CommandValue → Option (List ℕ)
file_of (Script config store) = config
file_of (Store path) = None
file_of (Judge folder hosts journal) = Some folder
file_of (Make number size) = None
file_of (Serve folder address port lanes connections patience until_input_ends) = Some folder
file_of (Host address port name fuel wait login) = option_map (λ l. l.password_file) login

-- this holds, unless the command serves
abbrev pub UnlessServing : CommandValue → Type 0 → Type 0
UnlessServing (Script config store) fact = fact
UnlessServing (Store path) fact = fact
UnlessServing (Judge folder hosts journal) fact = fact
UnlessServing (Make number size) fact = fact
UnlessServing (Serve folder address port lanes connections patience until_input_ends) fact = ⊤
UnlessServing (Host address port name fuel wait login) fact = fact

-- this holds, unless the command works as a host
abbrev pub UnlessHosting : CommandValue → Type 0 → Type 0
UnlessHosting (Script config store) fact = fact
UnlessHosting (Store path) fact = fact
UnlessHosting (Judge folder hosts journal) fact = fact
UnlessHosting (Make number size) fact = fact
UnlessHosting (Serve folder address port lanes connections patience until_input_ends) fact = fact
UnlessHosting (Host address port name fuel wait login) fact = ⊤

-- this holds, unless the command opens a store
abbrev pub UnlessStoring : CommandValue → Type 0 → Type 0
UnlessStoring (Script config None) fact = fact
UnlessStoring (Script config (Some path)) fact = ⊤
UnlessStoring (Store path) fact = ⊤
UnlessStoring (Judge folder hosts journal) fact = fact
UnlessStoring (Make number size) fact = fact
UnlessStoring (Serve folder address port lanes connections patience until_input_ends) fact = fact
UnlessStoring (Host address port name fuel wait login) fact = fact

abbrev pub CommandIsDone : {M : Type 0} → Option (List TreeFile) → CommandValue → LinkUse M → StoreUse → Option (List ℕ)
    → Type 0 → Exit → Type 0
CommandIsDone files (Script config None) link store left faultless e = ScriptIsDone files config left faultless e
CommandIsDone files (Script config (Some path)) link store left faultless e = StoredIsDone files config store left faultless e
CommandIsDone files (Store path) link store left faultless e = ListIsDone store faultless e
CommandIsDone files (Judge folder hosts journal) link store left faultless e = ContestIsDone files folder faultless e
CommandIsDone files (Make number size) link store left faultless e = MakeIsDone faultless e
CommandIsDone files (Serve folder address port lanes connections patience until_input_ends) link store left faultless e =
    ContestIsDone files folder faultless e
CommandIsDone files (Host address port name fuel wait login) link store left faultless e =
    HostIsDone files link name wait login fuel faultless e
