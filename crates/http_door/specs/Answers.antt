-- The responses of bytes, and how they end.
use Rattle.std.specs.Prelude.{◌≡◌, ℕ, ◌≤◌, ◌<◌, ◌⊎◌, List, [], ◌∷◌, ◌++◌, length, take, ⊤}
use Rattle.httparse.specs.Grammar.{ResponseHead, ReadsResponse, HasNoResponse, MayBecomeResponse, print_response, status_code}
use Rattle.httparse.specs.Spans.{ResponseOverflows}
use Rattle.http_door.specs.declared.answers.fields.AnswerFraming.{AnswerFraming}
use Rattle.http_door.specs.declared.answers.fields.AnswerFraming.TheVariants as framing
use Rattle.http_door.specs.declared.answers.ending.AnswerEnding.{AnswerEnding}
use Rattle.http_door.specs.declared.answers.ending.AnswerEnding.TheVariants as end
use Rattle.http_door.specs.Heads.{head_limit, field_limit}
use Rattle.http_door.specs.AnswerHeads.{framing_of}

pub record Answer : Type 0 where
  pub code : ℕ
  pub body : List ℕ

-- the bytes are the head h, which keeps to the limits, and then rest
pub record IsHead (bytes : List ℕ) (h : ResponseHead) (rest : List ℕ) : Type 0 where
  pub reads : ReadsResponse bytes h rest
  pub short : length (print_response h) ≤ head_limit
  pub few : length h.fields ≤ field_limit

-- the bytes are a whole response, and then rest
pub record IsAnswer (bytes : List ℕ) (a : Answer) (rest : List ℕ) : Type 0 where
  pub head : ResponseHead
  pub is_head : IsHead bytes head (a.body ++ rest)
  pub framing : framing_of head ≡ framing.Sized (length a.body)
  pub code : a.code ≡ status_code head

-- a whole head that keeps to the limits stands at the front of the bytes
abbrev pub HoldsHead : List ℕ → Type 0
HoldsHead bytes = (h : ResponseHead) × (rest : List ℕ) × IsHead bytes h rest

-- a whole response stands at the front of the bytes
abbrev pub HoldsAnswer : List ℕ → Type 0
HoldsAnswer bytes = (a : Answer) × (rest : List ℕ) × IsAnswer bytes a rest

-- the bytes are these responses, and then rest
abbrev pub AreAnswers : List ℕ → List Answer → List ℕ → Type 0
AreAnswers bytes [] rest = bytes ≡ rest
AreAnswers bytes (a ∷ us) rest = (middle : List ℕ) × IsAnswer bytes a middle × AreAnswers middle us rest

-- a head stands at the front that says this of its body
abbrev pub HasFraming : AnswerFraming → List ℕ → Type 0
HasFraming f bytes = (h : ResponseHead) × (rest : List ℕ) × IsHead bytes h rest × (framing_of h ≡ f)

-- no head has ended, though one still may
pub record IsWithinHead (bytes : List ℕ) : Type 0 where
  pub short : length bytes < head_limit
  pub none : HasNoResponse bytes
  pub may : MayBecomeResponse bytes

-- a head stands at the front, and not all of its body behind it
pub record IsWithinBody (bytes : List ℕ) : Type 0 where
  pub head : ResponseHead
  pub rest : List ℕ
  pub len : ℕ
  pub is_head : IsHead bytes head rest
  pub framing : framing_of head ≡ framing.Sized len
  pub short : length rest < len

-- the bytes end before a response does
abbrev pub IsUnfinished : List ℕ → Type 0
IsUnfinished bytes = IsWithinHead bytes ⊎ IsWithinBody bytes

-- as many bytes as a head has at most hold no whole head, though more might make one
pub record IsLongHead (bytes : List ℕ) : Type 0 where
  pub long : head_limit ≤ length bytes
  pub none : HasNoResponse (take head_limit bytes)
  pub may : MayBecomeResponse (take head_limit bytes)

-- no head that keeps to the limits, or one that says no length that is looked at
abbrev pub IsBadHead : List ℕ → Type 0
IsBadHead bytes =
    (ResponseOverflows field_limit (take head_limit bytes) ⊎ IsLongHead bytes) ⊎ HasFraming framing.BadLength bytes

-- why no response stands at the front of the bytes
abbrev pub EndsAs : AnswerEnding → List ℕ → Type 0
EndsAs end.Cut bytes = IsUnfinished bytes
EndsAs end.BadHead bytes = IsBadHead bytes
EndsAs (end.TooLong n) bytes = HasFraming (framing.TooLong n) bytes
EndsAs (end.Status code) bytes = HasFraming (framing.Status code) bytes
EndsAs end.ReadFault bytes = IsUnfinished bytes
EndsAs end.NoMemory bytes = ⊤

-- the bytes are these responses, and end so
abbrev pub Cuts : List ℕ → List Answer → AnswerEnding → Type 0
Cuts bytes us e = (rest : List ℕ) × AreAnswers bytes us rest × EndsAs e rest

-- the end is a fault of the bytes, whatever follows them
abbrev pub IsFault : AnswerEnding → Type 0
IsFault end.Cut = ⊥
IsFault end.BadHead = ⊤
IsFault (end.TooLong n) = ⊤
IsFault (end.Status code) = ⊤
IsFault end.ReadFault = ⊥
IsFault end.NoMemory = ⊥

-- the end is not for want of memory
abbrev pub IsOfBytes : AnswerEnding → Type 0
IsOfBytes end.Cut = ⊤
IsOfBytes end.BadHead = ⊤
IsOfBytes (end.TooLong n) = ⊤
IsOfBytes (end.Status code) = ⊤
IsOfBytes end.ReadFault = ⊤
IsOfBytes end.NoMemory = ⊥
