-- What a session over lines reads, answers and writes.
use Rattle.std.specs.Prelude.{◌≡◌, ℕ, List, [], ◌++◌, ◌⊎◌, ◌<◌, length, take, Option, None, Some}
use Rattle.std.specs.Io.KnownBytes.{Appends, Consumes, IsAtEnd}
use Rattle.farm_io.specs.declared.block.Stop.{Stop}
use Rattle.farm_io.specs.declared.streams.PutEnd.{PutEnd}
use Rattle.farm_io.specs.declared.streams.PutEnd.TheVariants as put
use Rattle.farm_io.specs.Lines.{Cut, lines_of, through_last_feed, input_limit}
use Rattle.farm_io.specs.BlockValue.{IsEnded}
use Rattle.farm_io.specs.ReaderValue.{ReaderValue, IsReadable}
use Rattle.farm_io.specs.Reading.{MayFollow, EndsInFeed, MayGoOn}
use Rattle.farm_model.specs.State.{State, SettingsValue, start}
use Rattle.farm_model.specs.Replay.{state_after}
use Rattle.farm_model.specs.Script.{output_from, events_of}
use Rattle.farm_laws.specs.Output.{events_in, OutputKeepsPromise, EachLineIsWritten}
use Rattle.script_session.specs.declared.end.ScriptEnd.{ScriptEnd}
use Rattle.script_session.specs.declared.end.ScriptEnd.TheVariants as end

-- the farm, what the input has left and what the output holds, as far as these tell, before a session and after it
pub record SessionState : Type 0 where
  pub farm : State
  pub left : Option (List ℕ)
  pub held : Option (List ℕ)

-- Where a session ends. The bytes that were taken are those that the input lost.

-- from the empty farm, what was written for the bytes keeps the promise
abbrev pub KeepsPromiseFrom : State → List ℕ → List ℕ → Type 0
KeepsPromiseFrom farm bytes text =
    (settings : SettingsValue) → farm ≡ start settings → OutputKeepsPromise settings bytes text

-- from the empty farm, each line that is an event was answered
abbrev pub AnswersEachFrom : State → List ℕ → List ℕ → Type 0
AnswersEachFrom farm bytes text =
    (settings : SettingsValue) → farm ≡ start settings → EachLineIsWritten settings bytes text

-- What was written is the output for these bytes, and the farm stands after their events.
pub record Answers (old new : SessionState) (bytes : List ℕ) : Type 0 where
  pub farm : new.farm ≡ state_after old.farm (events_of bytes)
  pub wrote : Appends old.held new.held (output_from old.farm (lines_of bytes))
  pub keeps : KeepsPromiseFrom old.farm bytes (output_from old.farm (lines_of bytes))
  pub each : AnswersEachFrom old.farm bytes (output_from old.farm (lines_of bytes))

-- the input was read to its end, and all of it was answered
pub record AllAnswered (old new : SessionState) : Type 0 where
  pub bytes : List ℕ
  pub took : Consumes old.left new.left bytes
  pub ended : IsAtEnd new.left
  pub answers : Answers old new bytes

-- the bytes that were taken were answered, up to their last line feed
pub record LinesAnswered (old new : SessionState) : Type 0 where
  pub bytes : List ℕ
  pub took : Consumes old.left new.left bytes
  pub answers : Answers old new (through_last_feed bytes)

-- Some lines, from the first one on, of the bytes that were taken were answered. The farm stands after their events,
-- and what was written is a prefix of the output for them.
pub record PrefixAnswered (old new : SessionState) : Type 0 where
  pub bytes : List ℕ
  pub took : Consumes old.left new.left bytes
  pub lines : List Cut
  pub others : List Cut
  pub cut : lines_of bytes ≡ lines ++ others
  pub farm : new.farm ≡ state_after old.farm (events_in lines)
  pub text : List ℕ
  pub wrote : Appends old.held new.held text
  pub after : List ℕ
  pub prefix : text ++ after ≡ output_from old.farm lines
  pub keeps : KeepsPromiseFrom old.farm bytes text

-- the input tells what it has left, which is less than is taken at most
abbrev pub IsShort : Option (List ℕ) → Type 0
IsShort None = ⊥
IsShort (Some bytes) = length bytes < input_limit

-- As many bytes were taken as are taken at most, and the input has no fewer: its end was not among them.
pub record TookLimit (left left' : Option (List ℕ)) : Type 0 where
  pub bytes : List ℕ
  pub took : Consumes left left' bytes
  pub count : length bytes ≡ input_limit
  pub not_short : ¬ IsShort left

-- Where a session stands between two lines

pub record Standing : Type 0 where
  pub farm : State
  pub left : Option (List ℕ)
  pub held : Option (List ℕ)
  pub reader : ReaderValue
  -- the replies that are not written yet
  pub pending : List ℕ

-- where a session ends that stands here
abbrev pub session_of : Standing → SessionState
session_of p = record { farm = p.farm; left = p.left; held = p.held }

-- nothing was read, or the last line had a line feed
abbrev pub EndsWell : List ℕ → Type 0
EndsWell piece = (piece ≡ []) ⊎ EndsInFeed piece

-- the piece has these lines, whatever may follow it
abbrev pub HasLines : Option Stop → List ℕ → List Cut → Type 0
HasLines halt piece lines = (more : List ℕ) → MayFollow halt more → lines_of (piece ++ more) ≡ lines ++ lines_of more

-- A piece of the input was answered, by a text that was written and by what is pending.
pub record IsUnderWay (b : SessionState) (p : Standing) : Type 0 where
  pub piece : List ℕ
  pub lines : List Cut
  pub text : List ℕ
  pub took : Consumes b.left p.left (piece ++ p.reader.ahead)
  pub count : p.reader.taken ≡ length (piece ++ p.reader.ahead)
  pub cut : HasLines p.reader.stop piece lines
  pub farm : p.farm ≡ state_after b.farm (events_in lines)
  pub wrote : Appends b.held p.held text
  pub replies : text ++ p.pending ≡ output_from b.farm lines
  pub fed : p.reader.stop ≡ None → EndsWell piece
  pub going : MayGoOn p.reader.stop
  pub ended : IsEnded p.reader.stop p.left
  pub readable : IsReadable p.reader

-- what is known of the end of a session
abbrev pub EndsAs : ScriptEnd → SessionState → SessionState → Type 0
EndsAs end.Done old new = AllAnswered old new
EndsAs end.ReadFault old new = LinesAnswered old new
EndsAs end.WriteFault old new = PrefixAnswered old new
EndsAs end.NoMemory old new = PrefixAnswered old new
EndsAs end.InputLimit old new = LinesAnswered old new × TookLimit old.left new.left

-- What is pending is put

-- a prefix of what was pending was written, and the rest is pending still; at a failure a part of it was written
abbrev pub PutsPending : Option (List ℕ) → Option (List ℕ) → List ℕ → List ℕ → PutEnd → Type 0
PutsPending held held' old new put.Done = (text : List ℕ) × Appends held held' text × (old ≡ text ++ new)
PutsPending held held' old new put.Failed = (n : ℕ) × Appends held held' (take n old)
