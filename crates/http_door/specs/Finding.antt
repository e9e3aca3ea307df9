-- What is found at the front of a window.
use Rattle.std.specs.Prelude.{◌≡◌, ◌==◌, ℕ, ◌+◌, ◌≤◌, ◌⊎◌, List, length, drop, Option, Some, None, Result, Ok, Err, Bool, true, false}
use Rattle.std.specs.Io.KnownBytes.{IsAtEnd}
use Rattle.httparse.specs.Grammar.{RequestHead}
use Rattle.httparse.specs.Spans.{span_bytes, IsWithin}
use Rattle.farm_io.specs.declared.block.Stop.{Stop}
use Rattle.farm_io.specs.declared.block.Stop.TheVariants as stop
use Rattle.farm_io.specs.Lines.{input_limit}
use Rattle.http_door.specs.declared.fields.Framing.{Framing}
use Rattle.http_door.specs.declared.fields.Framing.TheVariants as framing
use Rattle.http_door.specs.declared.heads.Seen.{Seen}
use Rattle.http_door.specs.declared.ending.Ending.{Ending}
use Rattle.http_door.specs.declared.ending.Ending.TheVariants as ending
use Rattle.http_door.specs.declared.finding.Whole.{Whole}
use Rattle.http_door.specs.declared.reader.Head.{Head}
use Rattle.http_door.specs.Heads.{head_limit, framing_of, closes}
use Rattle.http_door.specs.Requests.{IsHead, IsWithinHead, EndsAs, IsRefusal}
use Rattle.http_door.specs.WindowValue.{WindowValue}

-- the head h stands at the front of the bytes and keeps to the limits, and these are its parts
pub record ShowsHead (bytes : List ℕ) (h : RequestHead) (s : Seen) : Type 0 where
  pub is_head : IsHead bytes h (drop s.len bytes)
  pub short : s.len ≤ head_limit
  pub within : s.len ≤ length bytes
  pub method : span_bytes bytes s.method ≡ h.method
  pub method_within : IsWithin s.len s.method
  pub target : span_bytes bytes s.target ≡ h.target
  pub target_within : IsWithin s.len s.target
  pub framing : s.framing ≡ framing_of h
  pub close : s.close ≡ closes h

abbrev pub HasShown : List ℕ → Seen → Type 0
HasShown bytes s = (h : RequestHead) × ShowsHead bytes h s

-- a head, or a refusal; or none has ended
abbrev pub IsLooked : List ℕ → Option (Result Seen Ending) → Type 0
IsLooked bytes None = IsWithinHead bytes
IsLooked bytes (Some (Ok s)) = HasShown bytes s
IsLooked bytes (Some (Err e)) = EndsAs e bytes × IsRefusal e

-- where the bytes have ended, the source has nothing left
abbrev pub IsEndOf : Ending → Option (List ℕ) → Type 0
IsEndOf e left = (e ≡ ending.End → IsAtEnd left) × (e ≡ ending.Cut → IsAtEnd left)

-- the end of bytes that stop within or between requests
abbrev pub ended_by : Stop → Bool → Ending
ended_by stop.End true = ending.End
ended_by stop.End false = ending.Cut
ended_by stop.ReadFault empty = ending.ReadFault
ended_by stop.InputLimit empty = ending.InputLimit

-- The bytes stop here: a head or a refusal stands at their front; or none has ended, and they end as they stopped.
abbrev pub StopsOrShows : List ℕ → Stop → Result Seen Ending → Type 0
StopsOrShows bytes halt r =
    IsLooked bytes (Some r) ⊎ (IsWithinHead bytes × (r ≡ Err (ended_by halt (length bytes == 0))))

-- no request comes, and why
pub record Stops (left : Option (List ℕ)) (w : WindowValue) (e : Ending) : Type 0 where
  pub ends : EndsAs e w.ahead
  pub end : IsEndOf e left
  pub limit : e ≡ ending.InputLimit → w.taken ≡ input_limit

-- the head says this length
abbrev pub IsSized : Framing → Result ℕ Ending → Type 0
IsSized (framing.Sized n) r = r ≡ Ok n
IsSized framing.BadLength r = r ≡ Err ending.BadHead
IsSized framing.NoLength r = r ≡ Err ending.NoLength
IsSized (framing.TooLong n) r = r ≡ Err (ending.BodyTooLong n)

-- a head and the whole of its body
pub record HasWhole (bytes : List ℕ) (w : Whole) : Type 0 where
  pub head : RequestHead
  pub shows : ShowsHead bytes head w.seen
  pub framing : framing_of head ≡ framing.Sized w.len
  pub within : w.seen.len + w.len ≤ length bytes

-- the head has the parts that were seen
pub record HasParts (bytes : List ℕ) (w : Whole) (h : Head) : Type 0 where
  pub method : h.method ≡ span_bytes bytes w.seen.method
  pub target : h.target ≡ span_bytes bytes w.seen.target
  pub close : h.close ≡ w.seen.close
