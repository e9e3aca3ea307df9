-- What is found at the front of a window.
use Rattle.std.specs.Prelude.{◌≡◌, ℕ, ◌+◌, ◌≤◌, ◌⊎◌, List, length, drop, Option, Some, None, Result, Ok, Err}
use Rattle.std.specs.Io.KnownBytes.{IsAtEnd}
use Rattle.httparse.specs.Grammar.{ResponseHead, status_code}
use Rattle.farm_io.specs.declared.block.Stop.{Stop}
use Rattle.farm_io.specs.declared.block.Stop.TheVariants as stop
use Rattle.http_door.specs.declared.answers.fields.AnswerFraming.{AnswerFraming}
use Rattle.http_door.specs.declared.answers.fields.AnswerFraming.TheVariants as framing
use Rattle.http_door.specs.declared.answers.heads.Seen.{Seen}
use Rattle.http_door.specs.declared.answers.ending.AnswerEnding.{AnswerEnding}
use Rattle.http_door.specs.declared.answers.ending.AnswerEnding.TheVariants as ending
use Rattle.http_door.specs.declared.answers.finding.Whole.{Whole}
use Rattle.http_door.specs.AnswerFields.{answer_limit}
use Rattle.http_door.specs.Heads.{head_limit}
use Rattle.http_door.specs.AnswerHeads.{framing_of}
use Rattle.http_door.specs.Answers.{IsHead, IsWithinHead, EndsAs, IsFault}

-- the most bytes that a reader can hold: a head and a body
abbrev pub room_limit : ℕ
room_limit = head_limit + answer_limit

-- the head h stands at the front of the bytes and keeps to the limits, and this is what it says
pub record ShowsHead (bytes : List ℕ) (h : ResponseHead) (s : Seen) : Type 0 where
  pub is_head : IsHead bytes h (drop s.len bytes)
  pub short : s.len ≤ head_limit
  pub within : s.len ≤ length bytes
  pub code : s.code ≡ status_code h
  pub framing : s.framing ≡ framing_of h

abbrev pub HasShown : List ℕ → Seen → Type 0
HasShown bytes s = (h : ResponseHead) × ShowsHead bytes h s

-- a head, or a fault; or none has ended
abbrev pub IsLooked : List ℕ → Option (Result Seen AnswerEnding) → Type 0
IsLooked bytes None = IsWithinHead bytes
IsLooked bytes (Some (Ok s)) = HasShown bytes s
IsLooked bytes (Some (Err e)) = EndsAs e bytes × IsFault e

-- the end of bytes that stop within a response
abbrev pub ended_by : Stop → AnswerEnding
ended_by stop.End = ending.Cut
ended_by stop.ReadFault = ending.ReadFault
ended_by stop.InputLimit = ending.Cut

-- The bytes stop here: a head or a fault stands at their front; or none has ended, and they end as they stopped.
abbrev pub StopsOrShows : List ℕ → Stop → Result Seen AnswerEnding → Type 0
StopsOrShows bytes halt r = IsLooked bytes (Some r) ⊎ (IsWithinHead bytes × (r ≡ Err (ended_by halt)))

-- no response comes, and why; where the bytes were cut, the source has nothing left
pub record Stops (left : Option (List ℕ)) (ahead : List ℕ) (e : AnswerEnding) : Type 0 where
  pub ends : EndsAs e ahead
  pub end : e ≡ ending.Cut → IsAtEnd left

-- the head says this length
abbrev pub IsSized : AnswerFraming → Result ℕ AnswerEnding → Type 0
IsSized (framing.Sized n) r = r ≡ Ok n
IsSized framing.BadLength r = r ≡ Err ending.BadHead
IsSized (framing.TooLong n) r = r ≡ Err (ending.TooLong n)
IsSized (framing.Status code) r = r ≡ Err (ending.Status code)

-- a head and the whole of its body
pub record HasWhole (bytes : List ℕ) (w : Whole) : Type 0 where
  pub head : ResponseHead
  pub shows : ShowsHead bytes head w.seen
  pub framing : framing_of head ≡ framing.Sized w.len
  pub within : w.seen.len + w.len ≤ length bytes
