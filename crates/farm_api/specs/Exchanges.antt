-- Requests that are answered: what is entered for them, and their responses.
use Rattle.std.specs.Prelude.{◌≡◌, ℕ, List, [], ◌∷◌, ◌++◌, map, Bool, true, false, Option, Some, None}
use Rattle.http_door.specs.Requests.{Request}
use Rattle.farm_api.specs.declared.asking.Asked.{Asked}
use Rattle.farm_api.specs.declared.asking.Asked.TheVariants as asked
use Rattle.farm_kinds.specs.declared.events.Reply.{Reply}
use Rattle.farm_kinds.specs.declared.events.Reply.TheVariants as reply
use Rattle.farm_kinds.specs.declared.events.Event.TheVariants as event
use Rattle.farm_api.specs.Jobs.{owner_in, Gives, gives_none}
use Rattle.farm_api.specs.Conversation.{asked_of, Given, response_of}
use Rattle.farm_api.specs.Entering.{Entered, with_look, Replies, AreKnown, entered_for}

-- a request, what the clock showed, the replies to what is entered for it, what else the response takes, and whether
-- the server asked to close the connection behind it
pub record Exchange : Type 0 where
  pub request : Request
  pub moment : ℕ
  pub replies : Replies
  pub given : Given
  pub asked : Bool

-- what a connection is served by: the numbers that the clock may show, whether the server ever asks to close it, and
-- the cases and names that it may give
pub record Around : Type 1 where
  pub shows : ℕ → Bool
  pub asks : Bool
  pub gives : Gives

-- without cases and names
abbrev pub around_of : (ℕ → Bool) → Bool → Around
around_of shows asks = record { shows = shows; asks = asks; gives = gives_none }

-- the same, with these
abbrev pub giving : Gives → Around → Around
giving gives around = record { shows = around.shows; asks = around.asks; gives = gives }

-- what was given for the test of the submission that the reply names may be given; another reply gives nothing
abbrev pub IsCaseOf : Gives → ℕ → Option ℕ → Given → Type 0
IsCaseOf gives test None given = Unit {0}
IsCaseOf gives test (Some submission) given = gives.case submission test given.case

-- the look gave a board
abbrev pub IsBoard : Reply → Type 0
IsBoard (reply.Board rows) = Unit {0}
IsBoard r = ⊥

-- what was given may be given for what is asked
abbrev pub IsGiven : Gives → Asked → Reply → Given → Type 0
IsGiven gives (asked.Event ticks e) r given = Unit {0}
IsGiven gives (asked.Job p judging test) r given = IsCaseOf gives test (owner_in r) given
IsGiven gives asked.Public r given = IsBoard given.look
IsGiven gives asked.Page r given = IsBoard given.look × (given.contest ≡ gives.contest)
IsGiven gives asked.Contest r given = given.contest ≡ gives.contest
IsGiven gives (asked.Refused why) r given = Unit {0}

-- the clock shows the moment, no reply says that memory ran out, what was given may be given, and the server asked to
-- close only where it ever does
pub record IsWhole (around : Around) (x : Exchange) : Type 0 where
  pub shown : around.shows x.moment ≡ true
  pub known : AreKnown x.replies
  pub given : IsGiven around.gives (asked_of x.request) x.replies.answer x.given
  pub asked : x.asked ≡ true → around.asks ≡ true

-- What is entered for what is asked. For a job it is asked whose submission the judging is; for what the public sees it is
-- looked at that, also where it is shown as a page.
abbrev pub entered_by : ℕ → Asked → Replies → Given → List Entered
entered_by moment (asked.Event ticks e) r given = entered_for ticks moment e r
entered_by moment (asked.Job p judging test) r given = entered_for false moment (event.Owner judging) r
entered_by moment asked.Public r given = with_look given.look ∷ []
entered_by moment asked.Page r given = with_look given.look ∷ []
entered_by moment asked.Contest r given = []
entered_by moment (asked.Refused why) r given = []

-- what is entered for the request
abbrev pub entered_in : Exchange → List Entered
entered_in x = entered_by x.moment (asked_of x.request) x.replies x.given

-- the response to the request
abbrev pub text_of : Exchange → List ℕ
text_of x = response_of x.asked x.request x.replies.answer x.given

-- Requests in order

abbrev pub requests_of : List Exchange → List Request
requests_of xs = map (λ x. x.request) xs

abbrev pub all_entered : List Exchange → List Entered
all_entered [] = []
all_entered (x ∷ xs) = entered_in x ++ all_entered xs

abbrev pub all_text : List Exchange → List ℕ
all_text [] = []
all_text (x ∷ xs) = text_of x ++ all_text xs
