-- What a session does with its events behind their steps: they are kept, and those that are kept are settled before the
-- replies to them are put.
use Rattle.std.specs.Prelude.{◌≡◌, ◌⊎◌, ℕ, List, [], ◌++◌, take, Result, Ok, Err, Option, Some, None}
use Rattle.std.specs.Io.KnownBytes.{Appends, Consumes}
use Rattle.farm_io.specs.Lines.{Cut, lines_of}
use Rattle.farm_kinds.specs.declared.events.Event.{Event}
use Rattle.farm_model.specs.State.{State}
use Rattle.farm_model.specs.Script.{output_from, events_of}
use Rattle.farm_laws.specs.Output.{events_in}
use Rattle.script_session.specs.Session.{SessionState, Standing, session_of, IsUnderWay, AllAnswered, LinesAnswered, PrefixAnswered, TookLimit}
use Rattle.script_session.specs.declared.end.StoredEnd.{StoredEnd}
use Rattle.script_session.specs.declared.end.StoredEnd.TheVariants as end
use Rattle.script_session.specs.declared.keeper.KeepFault.{KeepFault}
use Rattle.script_session.specs.declared.keeper.KeepFault.TheVariants as fault

-- Three words of what keeps events, each of a run from a state on: `Kept least es`, all of `es` was given to it, and `least`,
-- the first of them, are settled; `Lost least all`, it failed in `all`, of which `least` were settled; `Full all end`, one of
-- `all` has no room, and would end there.

-- what comes of giving it the events that stand behind these
abbrev pub KeepsOn : (List Event → List Event → Type 0) → (List Event → List Event → Type 0) → (List Event → ℕ → Type 0)
    → List Event → List Event → List Event → Result (Unit {0}) KeepFault → Type 0
KeepsOn Kept Lost Full least es here (Ok done) = Kept least (es ++ here)
KeepsOn Kept Lost Full least es here (Err fault.Disk) = (others : List Event) → Lost least (es ++ (here ++ others))
KeepsOn Kept Lost Full least es here (Err (fault.Full at)) =
    Kept least es × ((others : List Event) → Full (es ++ (here ++ others)) at)
KeepsOn Kept Lost Full least es here (Err fault.NoMemory) = Kept least es

-- what comes of settling those that were given to it
abbrev pub SettlesOn : (List Event → List Event → Type 0) → (List Event → List Event → Type 0)
    → List Event → List Event → Result (Unit {0}) KeepFault → Type 0
SettlesOn Kept Lost least es (Ok done) = Kept es es
SettlesOn Kept Lost least es (Err error) = (others : List Event) → Lost least (es ++ others)

-- A session that keeps its events is under way. The replies to some of its lines, or to fewer, were written, and their
-- events are settled.
pub record IsKeeping (Kept : List Event → List Event → Type 0) (b : SessionState) (p : Standing) : Type 0 where
  pub under_way : IsUnderWay b p
  pub settled : List Cut
  pub behind : List Cut
  pub parted : under_way.lines ≡ settled ++ behind
  pub after : List ℕ
  pub prefix : under_way.text ++ after ≡ output_from b.farm settled
  pub kept : Kept (events_in settled) (events_in under_way.lines)

-- Of the bytes that were taken some lines, from the first one on, are such that what was written is the output for them or
-- a prefix of it, and such that their events and all events of the bytes have P.
pub record WroteOf (P : List Event → List Event → Type 0) (old new : SessionState) : Type 0 where
  pub bytes : List ℕ
  pub took : Consumes old.left new.left bytes
  pub lines : List Cut
  pub others : List Cut
  pub cut : lines_of bytes ≡ lines ++ others
  pub text : List ℕ
  pub wrote : Appends old.held new.held text
  pub after : List ℕ
  pub prefix : text ++ after ≡ output_from old.farm lines
  pub holds : P (events_in lines) (events_of bytes)

-- a prefix of the events was kept
pub record KeptPrefix (Kept : List Event → List Event → Type 0) (least all : List Event) : Type 0 where
  pub es : List Event
  pub others : List Event
  pub run : all ≡ es ++ others
  pub kept : Kept least es

-- what is known of the events of a session with this end
abbrev pub EndsKeeping : (List Event → List Event → Type 0) → (List Event → List Event → Type 0)
    → (List Event → ℕ → Type 0) → StoredEnd → List Event → List Event → Type 0
EndsKeeping Kept Lost Full end.Done least all = KeptPrefix Kept least all
EndsKeeping Kept Lost Full end.ReadFault least all = KeptPrefix Kept least all
EndsKeeping Kept Lost Full end.WriteFault least all = KeptPrefix Kept least all
EndsKeeping Kept Lost Full end.InputLimit least all = KeptPrefix Kept least all
EndsKeeping Kept Lost Full end.StoreFault least all = Lost least all
EndsKeeping Kept Lost Full (end.StoreFull at) least all = KeptPrefix Kept least all × Full all at
EndsKeeping Kept Lost Full end.NoMemory least all = KeptPrefix Kept least all

-- what is known of the end of a session that keeps its events: at its own ends what is known of every session, and at the
-- others a prefix of the replies was written
abbrev pub StoredEndsAs : StoredEnd → SessionState → SessionState → Type 0
StoredEndsAs end.Done old new = AllAnswered old new
StoredEndsAs end.ReadFault old new = LinesAnswered old new
StoredEndsAs end.WriteFault old new = PrefixAnswered old new
StoredEndsAs end.InputLimit old new = LinesAnswered old new × TookLimit old.left new.left
StoredEndsAs end.StoreFault old new = PrefixAnswered old new
StoredEndsAs (end.StoreFull at) old new = PrefixAnswered old new
StoredEndsAs end.NoMemory old new = PrefixAnswered old new

-- What one line, or the end of the lines, does to a session, wherever it began. The words are those of before it and those of
-- after it, each at the state from which the session went on.
abbrev pub Turned : (State → List Event → List Event → Type 0) → (State → List Event → List Event → Type 0)
    → (State → List Event → List Event → Type 0) → (State → List Event → ℕ → Type 0)
    → Standing → Standing → Option StoredEnd → Type 0
Turned Kept Kept' Lost Full old new None =
    (b : SessionState) → IsKeeping (Kept b.farm) b old → IsKeeping (Kept' b.farm) b new
Turned Kept Kept' Lost Full old new (Some e) =
    (b : SessionState) → IsKeeping (Kept b.farm) b old
    → StoredEndsAs e b (session_of new) × WroteOf (EndsKeeping (Kept' b.farm) (Lost b.farm) (Full b.farm) e) b (session_of new)

-- What is pending is put, once it is settled

-- all was settled and put, or the output failed, or what keeps the events did, and then nothing was put
abbrev pub SettlesAs : (List Event → List Event → Type 0) → (List Event → List Event → Type 0) → List Event → List Event
    → Option (List ℕ) → Option (List ℕ) → List ℕ → List ℕ → Option StoredEnd → Type 0
SettlesAs Kept Lost least es held held' old new None = Kept es es × Appends held held' old × (new ≡ [])
SettlesAs Kept Lost least es held held' old new (Some end.WriteFault) = Kept es es × ((n : ℕ) × Appends held held' (take n old))
SettlesAs Kept Lost least es held held' old new (Some end.StoreFault) =
    (held' ≡ held) × ((others : List Event) → Lost least (es ++ others))
SettlesAs Kept Lost least es held held' old new (Some e) = ⊥

-- a session whose end is `first` puts what is pending: it ends so, and that or a prefix of it was put; or what keeps the
-- events failed, nothing was put, and it ends as `StoreFault`
abbrev pub FinishesAs : (List Event → List Event → Type 0) → (List Event → List Event → Type 0) → List Event → List Event
    → Option (List ℕ) → Option (List ℕ) → List ℕ → StoredEnd → StoredEnd → Type 0
FinishesAs Kept Lost least es held held' old first result =
    ((result ≡ end.StoreFault) × (held' ≡ held) × ((others : List Event) → Lost least (es ++ others)))
    ⊎ ((result ≡ first) × ((n : ℕ) × Appends held held' (take n old)) × Kept es es)
