-- What one call of a reader of requests reads.
use Rattle.std.specs.Prelude.{◌≡◌, ◌≢◌, ℕ, ◌+◌, ◌≤◌, List, ◌++◌, length, take, drop, Option, Some, None, Result, Ok, Err, ⊤}
use Rattle.std.specs.Io.KnownBytes.{Consumes}
use Rattle.farm_io.specs.Lines.{input_limit}
use Rattle.farm_io.specs.Streams.{Rose}
use Rattle.http_door.specs.declared.ending.Ending.{Ending}
use Rattle.http_door.specs.declared.ending.Ending.TheVariants as ending
use Rattle.http_door.specs.declared.reader.Head.{Head}
use Rattle.http_door.specs.Requests.{Request, IsRequest, EndsAs}
use Rattle.http_door.specs.Finding.{IsEndOf}
use Rattle.http_door.specs.WindowValue.{WindowValue}
use Rattle.http_door.specs.ReaderValue.{ReaderValue}

-- the request of a head that was given and its body
abbrev pub request_with : Head → List ℕ → Request
request_with h body = record { method = h.method; target = h.target; close = h.close; body = body }

-- no request stands at the front of the bytes for this cause, and all of them are left
abbrev pub LeavesAll : Ending → List ℕ → List ℕ → Type 0
LeavesAll e bytes rest = EndsAs e bytes × (rest ≡ bytes)

-- Of the bytes that were held and taken the first request is given, and the rest is left; or all are left.
abbrev pub Gives : List ℕ → List ℕ → List ℕ → Result Head Ending → Type 0
Gives bytes rest body (Ok h) = IsRequest bytes (request_with h body) rest
Gives bytes rest body (Err e) = LeavesAll e bytes rest

-- a prefix of what the source had left was taken, behind what the reader held
pub record Reads (left left' : Option (List ℕ)) (old new : ReaderValue) (result : Result Head Ending) : Type 0 where
  pub prefix : List ℕ
  pub took : Consumes left left' prefix
  pub count : new.taken ≡ old.taken + length prefix
  pub gives : Gives (old.ahead ++ prefix) new.ahead new.body result

-- the same over a window, where the body is still part of what is left
abbrev pub GivesIn : List ℕ → List ℕ → Result (Head × ℕ) Ending → Type 0
GivesIn bytes ahead (Ok (h, n)) =
    (n ≤ length ahead) × IsRequest bytes (request_with h (take n ahead)) (drop n ahead)
GivesIn bytes ahead (Err e) = LeavesAll e bytes ahead

pub record ReadsIn (left left' : Option (List ℕ)) (old new : WindowValue) (result : Result (Head × ℕ) Ending) : Type 0 where
  pub prefix : List ℕ
  pub took : Consumes left left' prefix
  pub count : new.taken ≡ old.taken + length prefix
  pub size : old.size ≤ new.size
  pub gives : GivesIn (old.ahead ++ prefix) new.ahead result

-- a request leaves the reader going, and an ending ends it
abbrev pub EndsWith : Result Head Ending → Option Ending → Type 0
EndsWith (Ok h) ended = ended ≡ None
EndsWith (Err e) ended = ended ≡ Some e

-- where the bytes have ended, the source has nothing left
abbrev pub IsEndFor : Option Ending → Option (List ℕ) → Type 0
IsEndFor None left = ⊤
IsEndFor (Some e) left = IsEndOf e left

-- The count of the source's faults never falls, and rises where the source failed and at nothing else. Where it failed
-- behind bytes that no head begins with, these are refused.
pub record HasCauseGiven {X : Type 0} (before now : ℕ) (result : Result X Ending) : Type 0 where
  pub later : before ≤ now
  pub failed : result ≡ Err ending.ReadFault → Rose before now
  pub kept : result ≢ Err ending.ReadFault → result ≢ Err ending.BadHead → now ≡ before

-- the same, where the call that first answers a fault is the one in which the source failed
pub record HasCauseNext (was : Option Ending) (before now : ℕ) (result : Result Head Ending) : Type 0 where
  pub later : before ≤ now
  pub failed : was ≡ None → result ≡ Err ending.ReadFault → Rose before now
  pub kept : result ≢ Err ending.ReadFault → result ≢ Err ending.BadHead → now ≡ before

-- where the bytes have ended, the source has nothing left, and at the limit as many were taken
pub record IsStopped (left : Option (List ℕ)) (w : WindowValue) (e : Ending) : Type 0 where
  pub end : IsEndOf e left
  pub limit : e ≡ ending.InputLimit → w.taken ≡ input_limit
