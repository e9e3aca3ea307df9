-- What a connection is answered.
use Rattle.std.specs.Prelude.{◌≡◌, ◌≢◌, ℕ, ◌+◌, ◌≤◌, ◌<◌, ◌⊎◌, List, [], ◌∷◌, ◌++◌, length, take, Bool, true, false, Option, Some, None, All, Result, Ok, Err}
use mathlib.Core.List.{IsPrefix}
use Rattle.std.specs.Io.KnownBytes.{Appends, Consumes, Keeps, IsAtEnd}
use Rattle.farm_kinds.specs.declared.events.Reply.{Reply}
use Rattle.farm_io.specs.Lines.{input_limit}
use Rattle.farm_io.specs.Streams.{Rose}
use Rattle.http_door.specs.declared.ending.Ending.{Ending}
use Rattle.http_door.specs.declared.ending.Ending.TheVariants as ending
use Rattle.http_door.specs.declared.refusals.Refusal.{Refusal}
use Rattle.http_door.specs.declared.responses.ResponseFault.{ResponseFault}
use Rattle.http_door.specs.declared.responses.ResponseFault.TheVariants as fault
use Rattle.http_door.specs.Requests.{Request, IsRequest, AreRequests, EndsAs, IsRefusal}
use Rattle.http_door.specs.Refusals.{refusal_of, refusal_response}
use Rattle.wire_job.specs.declared.parts.JobPart.{JobPart}
use Rattle.farm_api.specs.declared.asking.Asked.{Asked}
use Rattle.farm_api.specs.declared.ends.ConnHow.{ConnHow}
use Rattle.farm_api.specs.declared.ends.ConnHow.TheVariants as how
use Rattle.farm_api.specs.Jobs.{owner_in, Gives}
use Rattle.farm_api.specs.Conversation.{asked_of, Given, job_or_reply, response_in}
use Rattle.farm_api.specs.Entering.{Entered, AreEntered, Replies, AreKnown, IsBegun}
use Rattle.farm_api.specs.Exchanges.{Exchange, Around, IsCaseOf, IsGiven, IsWhole, entered_by, entered_in, text_of, requests_of, all_entered, all_text}

-- One request

-- what was put of a job, or of what stands in its place
abbrev pub PutsJob : Gives → Bool → JobPart → ℕ → ℕ → Reply → Option (List ℕ) → Option (List ℕ)
    → Result (Unit {0}) ResponseFault → Type 0
PutsJob gives closing p judging test r held held' (Ok u) =
    (given : Given) × IsCaseOf gives test (owner_in r) given
    × Appends held held' (job_or_reply closing p judging test (owner_in r) r given.case)
PutsJob gives closing p judging test r held held' (Err fault.WriteFault) =
    (given : Given) × IsCaseOf gives test (owner_in r) given
    × ((n : ℕ) × Appends held held' (take n (job_or_reply closing p judging test (owner_in r) r given.case)))
PutsJob gives closing p judging test r held held' (Err fault.NoMemory) = Keeps held held'

-- what was put of the answer to what is asked, behind which the server asks to close or does not
abbrev pub PutsAnswer : {A : Type 0} → (A → Entered → A → Type 0) → Gives → Bool → ℕ → Asked → A → A
    → Option (List ℕ) → Option (List ℕ) → Result (Unit {0}) ResponseFault → Type 0
PutsAnswer step gives closing moment what a b held held' (Ok u) =
    (r : Replies) × (given : Given) × AreKnown r × IsGiven gives what r.answer given
    × AreEntered step a (entered_by moment what r given) b × Appends held held' (response_in closing what r.answer given)
PutsAnswer step gives closing moment what a b held held' (Err fault.WriteFault) =
    (r : Replies) × (given : Given) × AreKnown r × IsGiven gives what r.answer given
    × AreEntered step a (entered_by moment what r given) b
    × ((n : ℕ) × Appends held held' (take n (response_in closing what r.answer given)))
PutsAnswer step gives closing moment what a b held held' (Err fault.NoMemory) =
    (given : Given) × IsBegun step (λ r. entered_by moment what r given) a b × Keeps held held'

-- the request asks to close, or the server does
abbrev pub close_or : Bool → Bool → Bool
close_or true closing = true
close_or false closing = closing

-- whether the connection ends behind an answer
abbrev pub how_after : Result (Unit {0}) ResponseFault → Bool → Option ConnHow
how_after (Ok u) true = Some how.Closed
how_after (Ok u) false = None
how_after (Err fault.WriteFault) close = Some how.WriteFault
how_after (Err fault.NoMemory) close = Some how.NoMemory

-- all of the exchange was entered, and it is that of the request
pub record IsExchange {A : Type 0} (step : A → Entered → A → Type 0) (around : Around) (a : A) (r : Request)
    (x : Exchange) (b : A) : Type 0 where
  pub is : x.request ≡ r
  pub whole : IsWhole around x
  pub entered : AreEntered step a (entered_in x) b

-- a prefix of what is entered for the request was, at a moment that the clock shows
pub record IsPartly {A : Type 0} (step : A → Entered → A → Type 0) (around : Around) (a : A) (r : Request)
    (b : A) : Type 0 where
  pub moment : ℕ
  pub shown : around.shows moment ≡ true
  pub given : Given
  pub begun : IsBegun step (λ replies. entered_by moment (asked_of r) replies given) a b

-- neither the request nor the server asks to close behind it
abbrev pub IsStaying : Exchange → Type 0
IsStaying x = (x.request.close ≡ false) × (x.asked ≡ false)

-- the request asks to close behind it, or the server does
abbrev pub IsClosing : Exchange → Type 0
IsClosing x = (x.request.close ≡ true) ⊎ (x.asked ≡ true)

-- how one request was answered
abbrev pub OneAnswered : {A : Type 0} → (A → Entered → A → Type 0) → Around → A → A → Request
    → Option (List ℕ) → Option (List ℕ) → Option ConnHow → Type 0
OneAnswered step around a b r held held' None =
    (x : Exchange) × IsExchange step around a r x b × Appends held held' (text_of x) × IsStaying x
OneAnswered step around a b r held held' (Some how.Closed) =
    (x : Exchange) × IsExchange step around a r x b × Appends held held' (text_of x) × IsClosing x
OneAnswered step around a b r held held' (Some how.WriteFault) =
    (x : Exchange) × IsExchange step around a r x b × ((n : ℕ) × Appends held held' (take n (text_of x)))
OneAnswered step around a b r held held' (Some how.NoMemory) = IsPartly step around a r b × Keeps held held'
OneAnswered step around a b r held held' (Some how.End) = ⊥
OneAnswered step around a b r held held' (Some how.Cut) = ⊥
OneAnswered step around a b r held held' (Some how.BadRequest) = ⊥
OneAnswered step around a b r held held' (Some how.ReadFault) = ⊥
OneAnswered step around a b r held held' (Some how.InputLimit) = ⊥

-- The end of the requests

abbrev pub response_at : Option Refusal → List ℕ
response_at None = []
response_at (Some q) = refusal_response q

-- the fixed response that belongs to an end, if one does
abbrev pub end_response : Ending → List ℕ
end_response e = response_at (refusal_of e)

-- a refusal was put, or a prefix of it
abbrev pub Refuses : Option (List ℕ) → Option (List ℕ) → List ℕ → ConnHow → Type 0
Refuses held held' text how.BadRequest = Appends held held' text
Refuses held held' text how.WriteFault = (n : ℕ) × Appends held held' (take n text)
Refuses held held' text how.NoMemory = ⊥
Refuses held held' text how.End = ⊥
Refuses held held' text how.Closed = ⊥
Refuses held held' text how.Cut = ⊥
Refuses held held' text how.ReadFault = ⊥
Refuses held held' text how.InputLimit = ⊥

-- what was put at an end
abbrev pub PutsEnd : Option (List ℕ) → Option (List ℕ) → Ending → ConnHow → Type 0
PutsEnd held held' e how.End = (e ≡ ending.End) × Keeps held held'
PutsEnd held held' e how.Closed = ⊥
PutsEnd held held' e how.Cut = (e ≡ ending.Cut) × Keeps held held'
PutsEnd held held' e how.BadRequest = IsRefusal e × Appends held held' (end_response e)
PutsEnd held held' e how.ReadFault = (e ≡ ending.ReadFault) × Keeps held held'
PutsEnd held held' e how.WriteFault = IsRefusal e × ((n : ℕ) × Appends held held' (take n (end_response e)))
PutsEnd held held' e how.InputLimit = (e ≡ ending.InputLimit) × Keeps held held'
PutsEnd held held' e how.NoMemory = (e ≡ ending.NoMemory) × Keeps held held'

-- A connection

-- where a connection stands between two requests
pub record Standing (A : Type 0) : Type 0 where
  -- of what events change
  pub state : A
  -- what the connection has left, and what it holds, where it tells
  pub left : Option (List ℕ)
  pub held : Option (List ℕ)
  -- taken and in no request yet, and how many bytes were taken in all
  pub ahead : List ℕ
  pub taken : ℕ

-- nothing was taken
abbrev pub untaken : {A : Type 0} → A → Option (List ℕ) → Option (List ℕ) → Standing A
untaken state left held = record { state = state; left = left; held = held; ahead = []; taken = 0 }

-- none of the requests asked to close, and behind none did the server
abbrev pub AreStaying : List Exchange → Type 0
AreStaying xs = All IsStaying xs

-- so many requests were answered since the beginning, and nobody asked to close
pub record IsUnderWay {A : Type 0} (step : A → Entered → A → Type 0) (around : Around) (b p : Standing A)
    (n : ℕ) : Type 0 where
  pub answered : List Exchange
  pub all : List ℕ
  pub count : length answered ≡ n
  pub bytes : p.taken ≡ b.taken + length all
  pub took : Consumes b.left p.left all
  pub cut : AreRequests all (requests_of answered) p.ahead
  pub whole : All (IsWhole around) answered
  pub entered : AreEntered step b.state (all_entered answered) p.state
  pub wrote : Appends b.held p.held (all_text answered)
  pub staying : AreStaying answered

-- the last request asked to close, or the server did behind it, and nobody did before
pub record IsClosed (xs : List Exchange) : Type 0 where
  pub prefix : List Exchange
  pub last : Exchange
  pub whole : xs ≡ prefix ++ last ∷ []
  pub closes : IsClosing last
  pub staying : AreStaying prefix

-- all was entered for the next request, and a prefix of its response was put
pub record IsNextCut (around : Around) (rest tail : List ℕ) (made : List Entered) : Type 0 where
  pub next : Exchange
  pub behind : List ℕ
  pub is : IsRequest rest next.request behind
  pub whole : IsWhole around next
  pub all_made : made ≡ entered_in next
  pub n : ℕ
  pub prefix : tail ≡ take n (text_of next)

-- a prefix of the fixed response to what stands there was put
pub record IsCutRefusal (rest tail : List ℕ) : Type 0 where
  pub why : Ending
  pub n : ℕ
  pub refusal : IsRefusal why
  pub ends : EndsAs why rest
  pub prefix : tail ≡ take n (end_response why)

-- a prefix of what is entered for the next request was, at a moment that the clock shows
pub record IsNextBegun (around : Around) (rest : List ℕ) (made : List Entered) : Type 0 where
  pub next : Exchange
  pub behind : List ℕ
  pub is : IsRequest rest next.request behind
  pub shown : around.shows next.moment ≡ true
  pub prefix : IsPrefix made (entered_in next)

-- What stands behind the requests that were answered: in the bytes that were taken (`rest`), in those that were put
-- (`tail`), and in what was entered (`made`).
abbrev pub EndsOf : Around → List Exchange → List ℕ → ℕ → Option (List ℕ) → List ℕ → List Entered
    → ConnHow → Type 0
EndsOf around xs rest bytes left tail made how.End = (rest ≡ []) × IsAtEnd left × (tail ≡ []) × (made ≡ [])
EndsOf around xs rest bytes left tail made how.Closed = IsClosed xs × (tail ≡ []) × (made ≡ [])
EndsOf around xs rest bytes left tail made how.Cut = EndsAs ending.Cut rest × IsAtEnd left × (tail ≡ []) × (made ≡ [])
EndsOf around xs rest bytes left tail made how.BadRequest =
    (e : Ending) × IsRefusal e × EndsAs e rest × (tail ≡ end_response e) × (made ≡ [])
EndsOf around xs rest bytes left tail made how.ReadFault = EndsAs ending.ReadFault rest × (tail ≡ []) × (made ≡ [])
EndsOf around xs rest bytes left tail made how.InputLimit =
    EndsAs ending.InputLimit rest × (tail ≡ []) × (made ≡ []) × (bytes ≡ input_limit)
EndsOf around xs rest bytes left tail made how.NoMemory = (tail ≡ []) × ((made ≡ []) ⊎ IsNextBegun around rest made)
EndsOf around xs rest bytes left tail made how.WriteFault =
    IsNextCut around rest tail made ⊎ (IsCutRefusal rest tail × (made ≡ []))

-- Of the bytes that were taken (`all`) the first n requests were answered. What was entered is what belongs to them,
-- and `made` behind it; what was put are their responses, and `tail` behind them. `enters` says what it is to enter a
-- list.
pub record IsServed {A : Type 0} (enters : A → List Entered → A → Type 0) (around : Around) (b p : Standing A)
    (n : ℕ) (h : ConnHow) : Type 0 where
  pub answered : List Exchange
  pub made : List Entered
  pub all : List ℕ
  pub rest : List ℕ
  pub tail : List ℕ
  pub count : length answered ≡ n
  pub took : Consumes b.left p.left all
  pub cut : AreRequests all (requests_of answered) rest
  pub whole : All (IsWhole around) answered
  pub entered : enters b.state (all_entered answered ++ made) p.state
  pub wrote : Appends b.held p.held (all_text answered ++ tail)
  -- only behind the last request may anybody have asked to close, and only where the connection ends for that
  pub staying : h ≢ how.Closed → AreStaying answered
  pub ends : EndsOf around answered rest (b.taken + length all) p.left tail made h

-- the request that closes counts as answered
abbrev pub answered_count : ℕ → ConnHow → ℕ
answered_count n how.Closed = n + 1
answered_count n how.End = n
answered_count n how.Cut = n
answered_count n how.BadRequest = n
answered_count n how.ReadFault = n
answered_count n how.WriteFault = n
answered_count n how.InputLimit = n
answered_count n how.NoMemory = n

-- what one request, or the end of the requests, does, wherever the connection began
abbrev pub Turned : {A : Type 0} → (A → Entered → A → Type 0) → Around → Standing A → Standing A
    → Option ConnHow → Type 0
Turned {A} step around old new None =
    (b : Standing A) (n : ℕ) → IsUnderWay step around b old n → IsUnderWay step around b new (n + 1)
Turned {A} step around old new (Some h) =
    (b : Standing A) (n : ℕ) → IsUnderWay step around b old n
    → IsServed (AreEntered step) around b new (answered_count n h) h

-- The counts of both sides never fall, and that of the side rises whose fault ended the connection, and at nothing
-- else. Where the source failed behind bytes that no head begins with, the connection ends with their refusal, whether
-- that could be put or not.
pub record HasCauseServed (read read' write write' : ℕ) (result : Option ConnHow) : Type 0 where
  pub read_later : read ≤ read'
  pub write_later : write ≤ write'
  pub read_failed : result ≡ Some how.ReadFault → Rose read read'
  pub write_failed : result ≡ Some how.WriteFault → Rose write write'
  pub read_kept : result ≢ Some how.ReadFault → result ≢ Some how.BadRequest → result ≢ Some how.WriteFault
      → read' ≡ read
  pub write_kept : result ≢ Some how.WriteFault → write' ≡ write

-- these requests are all of the bytes, which are fewer than may be taken, and none asks to close
pub record AreSound (bytes : List ℕ) (rs : List Request) : Type 0 where
  pub cut : AreRequests bytes rs []
  pub few : length bytes < input_limit
  pub staying : All (λ r. r.close ≡ false) rs

-- where the connection's bytes are sound requests, and neither side failed, all of them were answered, or memory ran
-- out, or the server, which asks to close, has closed it
abbrev pub AnswersAll : Bool → Option (List ℕ) → ℕ → ℕ → ℕ → ℕ → ℕ → ConnHow → Type 0
AnswersAll asks left read read' write write' n h =
    (bytes : List ℕ) (rs : List Request) → left ≡ Some bytes → AreSound bytes rs
    → ¬ Rose read read' → ¬ Rose write write'
    → ((h ≡ how.End) × (n ≡ length rs)) ⊎ (h ≡ how.NoMemory) ⊎ ((h ≡ how.Closed) × (asks ≡ true))
