-- What a script does, and how it ends.
use Rattle.std.specs.Prelude.{◌≡◌, ◌⊎◌, ℕ, List, ◌++◌, Option, Some, None, Ok, Err, take, ⊤}
use Rattle.std.specs.Option.{IsSomeAnd}
use Rattle.std.specs.Io.KnownBytes.{Appends, Consumes, IsAtEnd}
use Rattle.farm_io.specs.Lines.{through_last_feed}
use Rattle.farm_tree.specs.declared.reads.TreeFile.{TreeFile}
use Rattle.farm_tree.specs.Reading.{file_at}
use Rattle.farm_model.specs.State.{State, SettingsValue, standard_settings}
use Rattle.farm_model.specs.Script.{script_output}
use Rattle.farm_laws.specs.Output.{OutputKeepsPromise, EachLineIsWritten}
use Rattle.script_session.specs.Session.{SessionState, TookLimit, IsShort}
use Rattle.script_commands.specs.declared.config.BadConfig.{BadConfig}
use Rattle.exit_status.specs.declared.exit.Exit.{Exit}
use Rattle.exit_status.specs.declared.exit.Exit.TheVariants as exit
use Rattle.script_commands.specs.Config.{config_in, ConfigIs, bad_contest_line}

-- what the input has left and the output holds, as far as these tell, before a command and after it
pub record Streams : Type 0 where
  pub left : Option (List ℕ)
  pub held : Option (List ℕ)

-- a session with this farm over these streams
abbrev pub session : State → Streams → SessionState
session farm streams = record { farm = farm; left = streams.left; held = streams.held }

-- Lines that were read and answered, from the empty farm, by settings that are in use

-- What was written for these bytes is the script's output, and keeps the promise line by line.
pub record Answered (settings : SettingsValue) (bytes : List ℕ) (old new : Streams) : Type 0 where
  pub wrote : Appends old.held new.held (script_output settings bytes)
  pub keeps : OutputKeepsPromise settings bytes (script_output settings bytes)
  pub each : EachLineIsWritten settings bytes (script_output settings bytes)

-- the input was read to its end, and all of it was answered
pub record AllDone (InUse : SettingsValue → Type 0) (old new : Streams) : Type 0 where
  pub settings : SettingsValue
  pub in_use : InUse settings
  pub bytes : List ℕ
  pub took : Consumes old.left new.left bytes
  pub ended : IsAtEnd new.left
  pub answered : Answered settings bytes old new

-- the bytes that were taken were answered, up to their last line feed
pub record LinesDone (InUse : SettingsValue → Type 0) (old new : Streams) : Type 0 where
  pub settings : SettingsValue
  pub in_use : InUse settings
  pub bytes : List ℕ
  pub took : Consumes old.left new.left bytes
  pub answered : Answered settings (through_last_feed bytes) old new

-- what was written is a prefix of the script's output for the bytes that were taken, and keeps the promise
pub record PrefixDone (InUse : SettingsValue → Type 0) (old new : Streams) : Type 0 where
  pub settings : SettingsValue
  pub in_use : InUse settings
  pub bytes : List ℕ
  pub took : Consumes old.left new.left bytes
  pub text : List ℕ
  pub wrote : Appends old.held new.held text
  pub after : List ℕ
  pub prefix : text ++ after ≡ script_output settings bytes
  pub keeps : OutputKeepsPromise settings bytes text

-- how a script ends that has settings
abbrev pub RunEnds : (SettingsValue → Type 0) → Streams → Streams → Exit → Type 0
RunEnds InUse old new exit.Done = AllDone InUse old new
RunEnds InUse old new exit.Usage = ⊥
RunEnds InUse old new exit.BadContest = ⊥
RunEnds InUse old new exit.ReadFault = LinesDone InUse old new
RunEnds InUse old new exit.WriteFault = PrefixDone InUse old new
RunEnds InUse old new exit.Memory = PrefixDone InUse old new
RunEnds InUse old new exit.TreeFault = ⊥
RunEnds InUse old new exit.DoorFault = ⊥
RunEnds InUse old new exit.InputLimit = LinesDone InUse old new × TookLimit old.left new.left
RunEnds InUse old new exit.LinkFault = ⊥
RunEnds InUse old new (exit.BadAnswer answer) = ⊥
RunEnds InUse old new exit.StoreFault = ⊥
RunEnds InUse old new (exit.BadStore flaw) = ⊥
RunEnds InUse old new (exit.StoreFull mark) = ⊥

-- Settings that the file at the path does not give

-- the line that says why was written
pub record BadTold (files : Option (List TreeFile)) (path : List ℕ) (held held' : Option (List ℕ)) : Type 0 where
  pub fault : BadConfig
  pub found : ConfigIs files path (Err fault)
  pub wrote : Appends held held' (bad_contest_line path fault)

-- a prefix of that line was written, perhaps no byte of it
pub record PrefixTold (files : Option (List TreeFile)) (path : List ℕ) (held held' : Option (List ℕ)) : Type 0 where
  pub fault : BadConfig
  pub found : ConfigIs files path (Err fault)
  pub count : ℕ
  pub wrote : Appends held held' (take count (bad_contest_line path fault))

-- how a script ends that has no settings; `unwritten` says that the output is as it was
abbrev pub NoSettingsEnds : Option (List TreeFile) → List ℕ → Option (List ℕ) → Option (List ℕ) → Type 0 → Exit → Type 0
NoSettingsEnds files path held held' unwritten exit.Done = ⊥
NoSettingsEnds files path held held' unwritten exit.Usage = ⊥
NoSettingsEnds files path held held' unwritten exit.BadContest = BadTold files path held held'
NoSettingsEnds files path held held' unwritten exit.ReadFault = ⊥
NoSettingsEnds files path held held' unwritten exit.WriteFault = PrefixTold files path held held'
NoSettingsEnds files path held held' unwritten exit.Memory = unwritten
NoSettingsEnds files path held held' unwritten exit.TreeFault = unwritten
NoSettingsEnds files path held held' unwritten exit.DoorFault = ⊥
NoSettingsEnds files path held held' unwritten exit.InputLimit = ⊥
NoSettingsEnds files path held held' unwritten exit.LinkFault = ⊥
NoSettingsEnds files path held held' unwritten (exit.BadAnswer answer) = ⊥
NoSettingsEnds files path held held' unwritten exit.StoreFault = ⊥
NoSettingsEnds files path held held' unwritten (exit.BadStore flaw) = ⊥
NoSettingsEnds files path held held' unwritten (exit.StoreFull mark) = ⊥

-- How a script ends: it runs by the standard settings, or by those that the file gives, where the tree tells its
-- files; or the file gives none, and no line is read. `unread` and `unwritten` say that the input and the output are
-- as they were.
abbrev pub ScriptEnds : Option (List TreeFile) → Option (List ℕ) → Streams → Streams → Type 0 → Type 0 → Exit → Type 0
ScriptEnds files None old new unread unwritten e = RunEnds (λ settings. settings ≡ standard_settings) old new e
ScriptEnds files (Some path) old new unread unwritten e =
    RunEnds (λ settings. ConfigIs files path (Ok settings)) old new e
    ⊎ (unread × NoSettingsEnds files path old.held new.held unwritten e)

-- there is no file of settings, or the tree tells one that gives settings
abbrev pub HasSettings : Option (List TreeFile) → Option (List ℕ) → Type 0
HasSettings files None = ⊤
HasSettings files (Some path) =
    IsSomeAnd files (λ held. (settings : SettingsValue) × (config_in (file_at held path) ≡ Ok settings))

-- with settings, a short input and no fault, a script is done unless memory is wanting
unfoldable pub ScriptIsDone : Option (List TreeFile) → Option (List ℕ) → Option (List ℕ) → Type 0 → Exit → Type 0
ScriptIsDone files config left faultless e =
    HasSettings files config → IsShort left → faultless → (e ≡ exit.Done) ⊎ (e ≡ exit.Memory)
