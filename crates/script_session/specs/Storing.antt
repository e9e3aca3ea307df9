-- What a session that stores its events leaves on the disk.
use Rattle.std.specs.Prelude.{◌≡◌, ◌⊎◌, ◌≤◌, ◌<◌, ℕ, ◌+◌, ◌-◌, ◌^◌, min, Bool, true, false, IsTrue, List, [], ◌∷◌, ◌++◌, length, map, Option}
use Rattle.farm_kinds.specs.declared.events.Event.{Event}
use Rattle.farm_model.specs.State.{State}
use Rattle.farm_model.specs.Replay.{state_after, reply_to}
use Rattle.farm_model.specs.Texts.{event_text}
use Rattle.record_store.specs.Model.{DiskTime, Opening, AtEachMoment, Leaves, Rose}
use Rattle.record_store.specs.Held.{held, records_of, Rests}
use Rattle.stored_events.specs.Kept.{is_kept, kept_events}
use Rattle.farm_journal.specs.JournalValue.{JournalValue}
use Rattle.script_session.specs.declared.end.StoredEnd.{StoredEnd}
use Rattle.script_session.specs.declared.end.StoredEnd.TheVariants as end

-- the lines of the records of a run's events that are stored, from a state on
abbrev pub stored_lines : State → List Event → List (List ℕ)
stored_lines s es = map event_text (kept_events s es)

-- The file holds the first lines, and behind them what is stored of a prefix of the run: of these events at least.
pub record HoldsPrefix (first : List (List ℕ)) (s : State) (least all : List Event) (file : List ℕ) : Type 0 where
  pub more : List Event
  pub others : List Event
  pub run : all ≡ (least ++ more) ++ others
  pub holds : held file ≡ first ++ stored_lines s (least ++ more)

-- A crash at any moment leaves the first lines and what is stored of a prefix of the run; one at the end of it leaves what is
-- stored of these events at least.
pub record LeavesPrefix (first : List (List ℕ)) (s : State) (old new : DiskTime) (least all : List Event) : Type 0 where
  pub moments : AtEachMoment (HoldsPrefix first s [] all) old new
  pub acknowledged : Leaves (HoldsPrefix first s least all) new.now

-- where the records end, once those of a run stand behind the offset
abbrev pub store_end : ℕ → State → List Event → ℕ
store_end at s es = at + length (records_of (stored_lines s es))

-- what is stored of the run, if anything is, ends within the limit
abbrev pub Fits : ℕ → ℕ → State → List Event → Type 0
Fits at limit s es = (kept_events s es ≡ []) ⊎ (store_end at s es ≤ limit)

-- One of the events is the first whose record ends past the limit. It would end there.
pub record DoesNotFit (at limit : ℕ) (s : State) (all : List Event) (end : ℕ) : Type 0 where
  pub before : List Event
  pub next : Event
  pub others : List Event
  pub run : all ≡ before ++ next ∷ others
  pub fits : Fits at limit s before
  pub stored : is_kept next (reply_to (state_after s before) next) ≡ true
  pub past : limit < store_end at s (before ++ next ∷ [])
  pub would_end : end ≡ min (store_end at s (before ++ next ∷ [])) (2 ^ 64 - 1)

-- the events fit that were acknowledged, and where the store is full one does not
abbrev pub HasRoom : StoredEnd → ℕ → ℕ → State → List Event → List Event → Type 0
HasRoom end.Done at limit s least all = Fits at limit s least
HasRoom end.ReadFault at limit s least all = Fits at limit s least
HasRoom end.WriteFault at limit s least all = Fits at limit s least
HasRoom end.InputLimit at limit s least all = Fits at limit s least
HasRoom end.StoreFault at limit s least all = Fits at limit s least
HasRoom (end.StoreFull where_to) at limit s least all = Fits at limit s least × DoesNotFit at limit s all where_to
HasRoom end.NoMemory at limit s least all = Fits at limit s least

-- Where a session stands in its store

-- a journal, and what its disk tells
pub record StoreValue : Type 0 where
  pub journal : JournalValue
  pub tells : Bool
  pub time : DiskTime
  pub opened : Option Opening
  pub faults : ℕ

-- the journal can add an event
pub record IsReady (v : StoreValue) : Type 0 where
  pub fresh : v.journal.spent ≡ false
  pub rests : IsTrue v.tells → Rests v.time.now (held v.time.now.seen) v.journal.end

-- one store, at two moments
pub record IsSameStore (old new : StoreValue) : Type 0 where
  pub limit : new.journal.limit ≡ old.journal.limit
  pub tells : new.tells ≡ old.tells
  pub opened : new.opened ≡ old.opened
  pub later : old.faults ≤ new.faults

-- All events were stored that are to be; these are some of them, from the first one on.
pub record KeepsAll (old new : StoreValue) (s : State) (least es : List Event) : Type 0 where
  pub same : IsSameStore old new
  pub behind : List Event
  pub run : es ≡ least ++ behind
  pub fresh : new.journal.spent ≡ false
  pub end : new.journal.end ≡ store_end old.journal.end s es
  pub fits : Fits old.journal.end old.journal.limit s es
  pub moments : IsTrue old.tells → AtEachMoment (HoldsPrefix (held old.time.now.seen) s [] es) old.time new.time
  pub rests : IsTrue old.tells → Rests new.time.now (held old.time.now.seen ++ stored_lines s es) new.journal.end

-- the disk failed
pub record Fails (old new : StoreValue) (s : State) (least all : List Event) : Type 0 where
  pub same : IsSameStore old new
  pub spent : new.journal.spent ≡ true
  pub rose : Rose old.faults new.faults
  pub fits : Fits old.journal.end old.journal.limit s least
  pub leaves : IsTrue old.tells → LeavesPrefix (held old.time.now.seen) s old.time new.time least all
