-- How a script ends whose events are stored, and how the listing of a store does.
use Rattle.std.specs.Prelude.{◌≡◌, ◌⊎◌, ℕ, Bool, IsTrue, false, List, [], ◌++◌, codes, Option, Some, None, Ok, Err, take}
use Rattle.std.specs.Option.{IsSomeAnd, option_map}
use Rattle.std.specs.Fmt.{decimal}
use Rattle.std.specs.Io.KnownBytes.{Appends}
use Rattle.sha2.specs.Sha256.{sha256}
use Rattle.farm_tree.specs.declared.reads.TreeFile.{TreeFile}
use Rattle.farm_tree.specs.Reading.{file_at}
use Rattle.farm_kinds.specs.declared.events.Event.{Event}
use Rattle.farm_model.specs.State.{State, SettingsValue, start, standard_settings}
use Rattle.record_store.specs.declared.disk.Access.TheVariants as access
use Rattle.record_store.specs.Model.{DiskTime, Opening, IsQuiet, AtEachMoment, Leaves, OnlySynced}
use Rattle.record_store.specs.Held.{held, IsClosedAt}
use Rattle.stored_events.specs.declared.faults.OpenFault.{OpenFault}
use Rattle.stored_events.specs.declared.faults.OpenFault.TheVariants as fault
use Rattle.stored_events.specs.Opening.{opened_of, opened_lines, HoldsOrBegins}
use Rattle.script_session.specs.declared.end.StoredEnd.{StoredEnd}
use Rattle.script_session.specs.declared.end.StoredEnd.TheVariants as end
use Rattle.script_session.specs.Session.{IsShort}
use Rattle.script_session.specs.Keeping.{StoredEndsAs, WroteOf}
use Rattle.script_session.specs.Storing.{HoldsPrefix, HasRoom}
use Rattle.store_listing.specs.Listing.{store_text, is_store, PutsPrefix}
use Rattle.exit_status.specs.declared.exit.Exit.{Exit}
use Rattle.exit_status.specs.declared.exit.Exit.TheVariants as exit
use Rattle.exit_status.specs.declared.flaw.StoreFlaw.{StoreFlaw}
use Rattle.exit_status.specs.declared.flaw.StoreFlaw.TheVariants as store_flaw
use Rattle.script_commands.specs.Config.{config_in, ConfigIs, DigestIs}
use Rattle.script_commands.specs.Scripted.{Streams, session, NoSettingsEnds}

-- a disk's moments, which file is open on it, and how often it has failed
pub record StoreState : Type 0 where
  pub time : DiskTime
  pub opened : Option Opening
  pub faults : ℕ

-- whether the disk tells its moments, and how it stands before a command and after it
pub record StoreUse : Type 0 where
  pub tells : Bool
  pub old : StoreState
  pub new : StoreState

-- no file was opened, and nothing was written
abbrev pub IsUnopened : StoreUse → Type 0
IsUnopened disk = disk.new ≡ disk.old

-- the bytes of the file before the command
abbrev pub file_before : StoreUse → List ℕ
file_before disk = disk.old.time.now.seen

-- the lines that it holds
abbrev pub lines_before : StoreUse → List (List ℕ)
lines_before disk = held (file_before disk)

-- the bytes up to which the records of a store go at most
abbrev pub store_limit : ℕ
store_limit = 1073741824

-- the settings in use, and the SHA-256 digest of the file that gives them, or of no bytes
abbrev pub IsConfigured : Option (List TreeFile) → Option (List ℕ) → SettingsValue → List ℕ → Type 0
IsConfigured files None settings digest = (settings ≡ standard_settings) × (digest ≡ sha256 [])
IsConfigured files (Some path) settings digest = ConfigIs files path (Ok settings) × DigestIs files path digest

-- the same, where the tree tells its files
abbrev pub IsToldConfig : Option (List TreeFile) → Option (List ℕ) → SettingsValue → List ℕ → Type 0
IsToldConfig files None settings digest = (settings ≡ standard_settings) × (digest ≡ sha256 [])
IsToldConfig files (Some path) settings digest =
    IsSomeAnd files (λ told. (config_in (file_at told path) ≡ Ok settings)
    × (option_map sha256 (file_at told path) ≡ Some digest))

-- A store that was opened and played on

-- what it held, or the lines that it holds once it is open, and behind them what is stored of a prefix of the run
abbrev pub HoldsOrGoesOn : List ℕ → List (List ℕ) → State → List Event → List ℕ → Type 0
HoldsOrGoesOn digest lines s all file = (held file ≡ lines) ⊎ HoldsPrefix (opened_lines digest lines) s [] all file

-- Where nothing was pending, a crash at any moment, in the opening too, leaves what the store held and what is stored of a
-- prefix of the run. One at the end of it leaves what is stored of these events at least.
pub record StoresPrefix (digest : List ℕ) (s : State) (old new : DiskTime) (least all : List Event) : Type 0 where
  pub moments : IsQuiet old.now → AtEachMoment (HoldsOrGoesOn digest (held old.now.seen) s all) old new
  pub acknowledged : Leaves (HoldsPrefix (opened_lines digest (held old.now.seen)) s least all) new.now

-- The file at the path was opened, and lines were played on the farm that it held. Events to whose replies a part was
-- written are stored.
pub record IsPlayed (files : Option (List TreeFile)) (config : Option (List ℕ)) (path : List ℕ) (disk : StoreUse)
    (old new : Streams) (e : StoredEnd) : Type 0 where
  pub settings : SettingsValue
  pub digest : List ℕ
  pub in_use : IsConfigured files config settings digest
  pub opened : disk.new.opened ≡ Some (record { path = path; access = access.Change })
  pub first : State
  pub last : State
  pub leads : IsTrue disk.tells → opened_of digest (start settings) (file_before disk) ≡ Ok first
  pub ends : StoredEndsAs e (session first old) (session last new)
  pub stored : IsTrue disk.tells
      → WroteOf (StoresPrefix digest first disk.old.time disk.new.time) (session first old) (session last new)
  -- where the records of the open store end
  pub mark : ℕ
  pub begins : IsTrue disk.tells → (file : List ℕ) × IsClosedAt file (opened_lines digest (lines_before disk)) mark
  pub room : WroteOf (HasRoom e mark store_limit first) (session first old) (session last new)

-- Lines that were not played

-- the store could not be opened; a crash leaves what it held, or, where that was nothing, its first line
pub record IsUnplayed (files : Option (List TreeFile)) (config : Option (List ℕ)) (disk : StoreUse) : Type 0 where
  pub settings : SettingsValue
  pub digest : List ℕ
  pub in_use : IsConfigured files config settings digest
  pub moments : IsTrue disk.tells → IsQuiet disk.old.time.now
      → AtEachMoment (HoldsOrBegins digest (lines_before disk)) disk.old.time disk.new.time

abbrev pub open_fault : StoreFlaw → OpenFault
open_fault (store_flaw.OtherConfig kept) = fault.OtherConfig kept
open_fault (store_flaw.Record number) = fault.BadRecord number

-- the file at the path has this fault, and nothing was written to it
pub record IsFlawed (files : Option (List TreeFile)) (config : Option (List ℕ)) (path : List ℕ) (disk : StoreUse)
    (flaw : StoreFlaw) : Type 0 where
  pub settings : SettingsValue
  pub digest : List ℕ
  pub in_use : IsConfigured files config settings digest
  pub opened : disk.new.opened ≡ Some (record { path = path; access = access.Change })
  pub found : IsTrue disk.tells → opened_of digest (start settings) (file_before disk) ≡ Err (open_fault flaw)
  pub unwritten : IsTrue disk.tells → OnlySynced disk.old.time disk.new.time

-- the line that says what is wrong with the file of a store
abbrev pub bad_store_line : StoreFlaw → List ℕ
bad_store_line (store_flaw.OtherConfig kept) = codes "bad store: other config\n"
bad_store_line (store_flaw.Record number) = codes "bad store: record " ++ (decimal number ++ codes "\n")

-- a prefix of the line was written that says so
pub record FlawTold (IsFlaw : StoreFlaw → Type 0) (out out' : Option (List ℕ)) : Type 0 where
  pub flaw : StoreFlaw
  pub found : IsFlaw flaw
  pub count : ℕ
  pub wrote : Appends out out' (take count (bad_store_line flaw))

-- what is written of a flaw, and how that ends
abbrev pub FlawEnds : StoreFlaw → Option (List ℕ) → Option (List ℕ) → Type 0 → Exit → Type 0
FlawEnds flaw out out' unwritten exit.Done = ⊥
FlawEnds flaw out out' unwritten exit.Usage = ⊥
FlawEnds flaw out out' unwritten exit.BadContest = ⊥
FlawEnds flaw out out' unwritten exit.ReadFault = ⊥
FlawEnds flaw out out' unwritten exit.WriteFault = (count : ℕ) × Appends out out' (take count (bad_store_line flaw))
FlawEnds flaw out out' unwritten exit.Memory = unwritten
FlawEnds flaw out out' unwritten exit.TreeFault = ⊥
FlawEnds flaw out out' unwritten exit.DoorFault = ⊥
FlawEnds flaw out out' unwritten exit.InputLimit = ⊥
FlawEnds flaw out out' unwritten exit.LinkFault = ⊥
FlawEnds flaw out out' unwritten (exit.BadAnswer answer) = ⊥
FlawEnds flaw out out' unwritten exit.StoreFault = ⊥
FlawEnds flaw out out' unwritten (exit.BadStore told) = (told ≡ flaw) × Appends out out' (bad_store_line flaw)
FlawEnds flaw out out' unwritten (exit.StoreFull mark) = ⊥

-- How a script ends

-- the exit of a session that stores its events
abbrev pub exit_of : StoredEnd → Exit
exit_of end.Done = exit.Done
exit_of end.ReadFault = exit.ReadFault
exit_of end.WriteFault = exit.WriteFault
exit_of end.InputLimit = exit.InputLimit
exit_of end.StoreFault = exit.StoreFault
exit_of (end.StoreFull mark) = exit.StoreFull mark
exit_of end.NoMemory = exit.Memory

-- how a script ends that has settings
abbrev pub StoreEnds : Option (List TreeFile) → Option (List ℕ) → List ℕ → StoreUse → Streams → Streams → Type 0 → Type 0
    → Exit → Type 0
StoreEnds files config path disk old new unread unwritten exit.Done = IsPlayed files config path disk old new end.Done
StoreEnds files config path disk old new unread unwritten exit.Usage = ⊥
StoreEnds files config path disk old new unread unwritten exit.BadContest = ⊥
StoreEnds files config path disk old new unread unwritten exit.ReadFault =
    IsPlayed files config path disk old new end.ReadFault
StoreEnds files config path disk old new unread unwritten exit.WriteFault =
    IsPlayed files config path disk old new end.WriteFault
    ⊎ (unread × FlawTold (IsFlawed files config path disk) old.held new.held)
StoreEnds files config path disk old new unread unwritten exit.Memory =
    IsPlayed files config path disk old new end.NoMemory ⊎ (unread × unwritten × IsUnplayed files config disk)
StoreEnds files config path disk old new unread unwritten exit.TreeFault = ⊥
StoreEnds files config path disk old new unread unwritten exit.DoorFault = ⊥
StoreEnds files config path disk old new unread unwritten exit.InputLimit =
    IsPlayed files config path disk old new end.InputLimit
StoreEnds files config path disk old new unread unwritten exit.LinkFault = ⊥
StoreEnds files config path disk old new unread unwritten (exit.BadAnswer answer) = ⊥
StoreEnds files config path disk old new unread unwritten exit.StoreFault =
    IsPlayed files config path disk old new end.StoreFault ⊎ (unread × unwritten × IsUnplayed files config disk)
StoreEnds files config path disk old new unread unwritten (exit.BadStore flaw) =
    unread × IsFlawed files config path disk flaw × Appends old.held new.held (bad_store_line flaw)
StoreEnds files config path disk old new unread unwritten (exit.StoreFull mark) =
    IsPlayed files config path disk old new (end.StoreFull mark)

-- How a script ends whose events are stored: it runs by the standard settings, or by those that the file gives; or the file
-- gives none, and the store is not opened.
abbrev pub StoredEnds : Option (List TreeFile) → Option (List ℕ) → List ℕ → StoreUse → Streams → Streams → Type 0
    → Type 0 → Exit → Type 0
StoredEnds files None path disk old new unread unwritten e = StoreEnds files None path disk old new unread unwritten e
StoredEnds files (Some config) path disk old new unread unwritten e =
    StoreEnds files (Some config) path disk old new unread unwritten e
    ⊎ (IsUnopened disk × unread × NoSettingsEnds files config old.held new.held unwritten e)

-- there are settings, and the disk tells a file that is a store of theirs, or that begins one
pub record HasStore (files : Option (List TreeFile)) (config : Option (List ℕ)) (disk : StoreUse) : Type 0 where
  pub tells : IsTrue disk.tells
  pub settings : SettingsValue
  pub digest : List ℕ
  pub told : IsToldConfig files config settings digest
  pub first : State
  pub leads : opened_of digest (start settings) (file_before disk) ≡ Ok first

-- with a store, a short input and no fault, a script is done unless memory is wanting or the store is full
unfoldable pub StoredIsDone : Option (List TreeFile) → Option (List ℕ) → StoreUse → Option (List ℕ) → Type 0 → Exit → Type 0
StoredIsDone files config disk left faultless e =
    HasStore files config disk → IsShort left → faultless → ((mark : ℕ) → ¬ (e ≡ exit.StoreFull mark))
    → (e ≡ exit.Done) ⊎ (e ≡ exit.Memory)

-- How the listing of a store ends

-- the file at the path was opened to be read, so none was made, and nothing was written to it
pub record IsOnlyRead (path : List ℕ) (disk : StoreUse) : Type 0 where
  pub opened : disk.new.opened ≡ Some (record { path = path; access = access.Read })
  pub still : IsTrue disk.tells → disk.new.time ≡ disk.old.time

-- the file is no store, which is told as its first record
pub record IsNoStore (disk : StoreUse) (flaw : StoreFlaw) : Type 0 where
  pub told : flaw ≡ store_flaw.Record 1
  pub found : IsTrue disk.tells → is_store (file_before disk) ≡ false

-- the lines of the store were written
pub record IsListing (disk : StoreUse) (out out' : Option (List ℕ)) : Type 0 where
  pub is : IsTrue disk.tells → IsTrue (is_store (file_before disk))
  pub wrote : IsTrue disk.tells → Appends out out' (store_text (lines_before disk))

-- a prefix of them was written, perhaps no byte, and nothing to the disk
pub record IsListingPrefix (disk : StoreUse) (out out' : Option (List ℕ)) : Type 0 where
  pub still : IsTrue disk.tells → disk.new.time ≡ disk.old.time
  pub wrote : IsTrue disk.tells → PutsPrefix out out' (store_text (lines_before disk))

-- how it ends
abbrev pub ListEnds : List ℕ → StoreUse → Option (List ℕ) → Option (List ℕ) → Exit → Type 0
ListEnds path disk out out' exit.Done = IsOnlyRead path disk × IsListing disk out out'
ListEnds path disk out out' exit.Usage = ⊥
ListEnds path disk out out' exit.BadContest = ⊥
ListEnds path disk out out' exit.ReadFault = ⊥
ListEnds path disk out out' exit.WriteFault =
    IsOnlyRead path disk × (IsListingPrefix disk out out' ⊎ FlawTold (IsNoStore disk) out out')
ListEnds path disk out out' exit.Memory = IsListingPrefix disk out out'
ListEnds path disk out out' exit.TreeFault = ⊥
ListEnds path disk out out' exit.DoorFault = ⊥
ListEnds path disk out out' exit.InputLimit = ⊥
ListEnds path disk out out' exit.LinkFault = ⊥
ListEnds path disk out out' (exit.BadAnswer answer) = ⊥
ListEnds path disk out out' exit.StoreFault = IsListingPrefix disk out out'
ListEnds path disk out out' (exit.BadStore flaw) =
    IsOnlyRead path disk × IsNoStore disk flaw × Appends out out' (bad_store_line flaw)
ListEnds path disk out out' (exit.StoreFull mark) = ⊥

-- with a store and no fault, it is done unless memory is wanting
unfoldable pub ListIsDone : StoreUse → Type 0 → Exit → Type 0
ListIsDone disk faultless e =
    IsTrue disk.tells → IsTrue (is_store (file_before disk)) → faultless → (e ≡ exit.Done) ⊎ (e ≡ exit.Memory)
