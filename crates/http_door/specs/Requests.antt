-- The requests of bytes, and how they end.
use Rattle.std.specs.Prelude.{◌≡◌, ℕ, ◌≤◌, ◌<◌, ◌⊎◌, List, [], ◌∷◌, ◌++◌, length, take, Bool, ⊤}
use Rattle.httparse.specs.Grammar.{RequestHead, ReadsRequest, HasNoRequest, MayBecomeRequest, print_request}
use Rattle.httparse.specs.Spans.{RequestOverflows}
use Rattle.http_door.specs.declared.fields.Framing.{Framing}
use Rattle.http_door.specs.declared.fields.Framing.TheVariants as framing
use Rattle.http_door.specs.declared.ending.Ending.{Ending}
use Rattle.http_door.specs.declared.ending.Ending.TheVariants as end
use Rattle.http_door.specs.Heads.{head_limit, field_limit, framing_of, closes}

pub record Request : Type 0 where
  pub method : List ℕ
  pub target : List ℕ
  -- it asks to close, or is of version 1.0
  pub close : Bool
  pub body : List ℕ

abbrev pub request_of : RequestHead → List ℕ → Request
request_of h body = record { method = h.method; target = h.target; close = closes h; body = body }

-- the bytes are the head h, which keeps to the limits, and then rest
pub record IsHead (bytes : List ℕ) (h : RequestHead) (rest : List ℕ) : Type 0 where
  pub reads : ReadsRequest bytes h rest
  pub short : length (print_request h) ≤ head_limit
  pub few : length h.fields ≤ field_limit

-- a whole head stands at the front of the bytes
abbrev pub HoldsHead : List ℕ → Type 0
HoldsHead bytes = (h : RequestHead) × (rest : List ℕ) × IsHead bytes h rest

-- the bytes are a whole request, and then rest
pub record IsRequest (bytes : List ℕ) (r : Request) (rest : List ℕ) : Type 0 where
  pub head : RequestHead
  pub is_head : IsHead bytes head (r.body ++ rest)
  pub framing : framing_of head ≡ framing.Sized (length r.body)
  pub is : r ≡ request_of head r.body

-- a whole request stands at the front of the bytes
abbrev pub HoldsRequest : List ℕ → Type 0
HoldsRequest bytes = (r : Request) × (rest : List ℕ) × IsRequest bytes r rest

-- the bytes are these requests, and then rest
abbrev pub AreRequests : List ℕ → List Request → List ℕ → Type 0
AreRequests bytes [] rest = bytes ≡ rest
AreRequests bytes (r ∷ rs) rest = (middle : List ℕ) × IsRequest bytes r middle × AreRequests middle rs rest

-- a head stands at the front whose body ends so
abbrev pub HasFraming : Framing → List ℕ → Type 0
HasFraming f bytes = (h : RequestHead) × (rest : List ℕ) × IsHead bytes h rest × (framing_of h ≡ f)

-- no head has ended, though one still may
pub record IsWithinHead (bytes : List ℕ) : Type 0 where
  pub short : length bytes < head_limit
  pub none : HasNoRequest bytes
  pub may : MayBecomeRequest bytes

-- a head stands at the front, and not all of its body behind it
pub record IsWithinBody (bytes : List ℕ) : Type 0 where
  pub head : RequestHead
  pub rest : List ℕ
  pub len : ℕ
  pub is_head : IsHead bytes head rest
  pub framing : framing_of head ≡ framing.Sized len
  pub short : length rest < len

-- the bytes end before a request has ended
abbrev pub IsUnfinished : List ℕ → Type 0
IsUnfinished bytes = IsWithinHead bytes ⊎ IsWithinBody bytes

-- as many bytes as a head has at most hold no whole head, though more might make one
pub record IsLongHead (bytes : List ℕ) : Type 0 where
  pub long : head_limit ≤ length bytes
  pub none : HasNoRequest (take head_limit bytes)
  pub may : MayBecomeRequest (take head_limit bytes)

-- Why no request stands at the front of the bytes. Where a head is of no use whatever follows, and yet may still become
-- one with too many fields or with a target that is no text, more than one end fits: which comes depends on the pieces
-- in which the bytes were seen.
abbrev pub EndsAs : Ending → List ℕ → Type 0
EndsAs end.End bytes = bytes ≡ []
EndsAs end.Cut bytes = (0 < length bytes) × IsUnfinished bytes
EndsAs end.BadHead bytes =
    RequestOverflows field_limit (take head_limit bytes) ⊎ HasFraming framing.BadLength bytes
EndsAs (end.HeadTooLong n) bytes = (n ≡ head_limit) × IsLongHead bytes
EndsAs (end.BodyTooLong n) bytes = HasFraming (framing.TooLong n) bytes
EndsAs end.NoLength bytes = HasFraming framing.NoLength bytes
EndsAs end.ReadFault bytes = IsUnfinished bytes
EndsAs end.InputLimit bytes = IsUnfinished bytes
EndsAs end.NoMemory bytes = ⊤

-- the bytes are these requests, and end so
abbrev pub Cuts : List ℕ → List Request → Ending → Type 0
Cuts bytes rs e = (rest : List ℕ) × AreRequests bytes rs rest × EndsAs e rest

-- the end is one of the four refusals
abbrev pub IsRefusal : Ending → Type 0
IsRefusal end.End = ⊥
IsRefusal end.Cut = ⊥
IsRefusal end.BadHead = ⊤
IsRefusal (end.HeadTooLong n) = ⊤
IsRefusal (end.BodyTooLong n) = ⊤
IsRefusal end.NoLength = ⊤
IsRefusal end.ReadFault = ⊥
IsRefusal end.InputLimit = ⊥
IsRefusal end.NoMemory = ⊥

-- the end is not for want of memory
abbrev pub IsOfBytes : Ending → Type 0
IsOfBytes end.End = ⊤
IsOfBytes end.Cut = ⊤
IsOfBytes end.BadHead = ⊤
IsOfBytes (end.HeadTooLong n) = ⊤
IsOfBytes (end.BodyTooLong n) = ⊤
IsOfBytes end.NoLength = ⊤
IsOfBytes end.ReadFault = ⊤
IsOfBytes end.InputLimit = ⊤
IsOfBytes end.NoMemory = ⊥
