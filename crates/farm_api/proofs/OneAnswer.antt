-- How one request is answered, from what was put.
use Rattle.std.proofs.Common.{ℕ, ◌≡◌, inl, inr, List, [], ◌∷◌, Bool, true, false, Option, Some, None, Result, Ok, Err, refl, sym, ap, subst, take}
use Rattle.std.specs.Io.KnownBytes.{Keeps, Appends}
use Rattle.std.proofs.KnownBytes.{Keeps-refl}
use Rattle.farm_kinds.specs.declared.outcomes.Answer.{Answer}
use Rattle.farm_kinds.specs.declared.events.Event.{Event}
use Rattle.farm_kinds.specs.declared.events.Event.TheVariants as event
use Rattle.farm_kinds.specs.declared.events.Reply.{Reply}
use Rattle.farm_kinds.specs.declared.events.Reply.TheVariants as reply
use Rattle.http_door.specs.declared.responses.ResponseFault.{ResponseFault}
use Rattle.http_door.specs.declared.responses.ResponseFault.TheVariants as fault
use Rattle.http_door.specs.Requests.{Request}
use Rattle.http_door.specs.Responses.{response_with, Writes}
use Rattle.case_run.specs.Cases.{TestCase}
use Rattle.wire_job.specs.declared.parts.JobPart.{JobPart}
use Rattle.contest_page.specs.ViewValue.{ViewValue}
use Rattle.farm_api.specs.declared.asking.Asked.{Asked}
use Rattle.farm_api.specs.declared.asking.Asked.TheVariants as asked
use Rattle.farm_api.specs.declared.asking.RequestFault.{RequestFault}
use Rattle.farm_api.specs.Jobs.{owner_in, Gives, text_for, IsJobText, no_job, no_view}
use Rattle.farm_api.specs.Conversation.{asked_of, reply_response, fault_response, job_response, job_or_reply, rows_response, page_response, contest_response, Given, nothing_given}
use Rattle.farm_api.specs.Entering.{Entered, with_look, AreEntered, Replies, AreKnown, entered_for, IsBegun, IsEntered}
use Rattle.farm_api.specs.Exchanges.{Around, Exchange, IsCaseOf, IsGiven, entered_by}
use Rattle.farm_api.specs.Putting.{PutsRows, PutsLook}
use Rattle.farm_api.specs.Serving.{IsPartly, IsExchange, PutsJob, PutsAnswer, close_or, how_after, OneAnswered}
use Rattle.farm_api.proofs.Enterings.{begun_all}

-- replies to nothing
abbrev no_replies : Replies
no_replies = record { ticked = reply.Nothing; answer = reply.Nothing; downed = reply.Nothing }

no_replies-known : AreKnown no_replies
no_replies-known = record { ticked = λ is. cc is; answer = λ is. cc is; downed = λ is. cc is }

-- nothing was entered
pub begun_none : {A : Type 0} (step : A → Entered → A → Type 0) (what : Asked) (moment : ℕ) (given : Given) (a : A) → IsBegun step (λ r. entered_by moment what r given) a a
begun_none step what moment given a = record {
  replies = no_replies;
  made = [];
  prefix = (entered_by moment what no_replies given, refl);
  entered = refl;
}

-- nothing is asked, and the response says why
pub put_fault : {A : Type 0} (step : A → Entered → A → Type 0) (gives : Gives) (closing : Bool) (moment : ℕ) (a : A) (why : RequestFault) (held held' : Option (List ℕ)) (result : Result (Unit {0}) ResponseFault)
    → Writes held held' (fault_response closing why) result → PutsAnswer step gives closing moment (asked.Refused why) a a held held' result
put_fault step gives closing moment a why held held' (Ok u) x = (no_replies, nothing_given, no_replies-known, tt, refl, x)
put_fault step gives closing moment a why held held' (Err fault.WriteFault) x = (no_replies, nothing_given, no_replies-known, tt, refl, (x.0, x.2))
put_fault step gives closing moment a why held held' (Err fault.NoMemory) x = (nothing_given, begun_none step (asked.Refused why) moment nothing_given a, x)

-- the event was entered, and the response is that to its reply
pub put_reply : {A : Type 0} (step : A → Entered → A → Type 0) (gives : Gives) (closing ticks : Bool) (moment : ℕ) (e : Event) (a b : A) (r : Reply) (held held' : Option (List ℕ)) (result : Result (Unit {0}) ResponseFault)
    → IsEntered step (entered_for ticks moment e) a b r → Writes held held' (reply_response closing r) result → PutsAnswer step gives closing moment (asked.Event ticks e) a b held held' result
put_reply step gives closing ticks moment e a b r held held' (Ok u) y x =
    (y.replies, nothing_given, y.known, tt, y.entered, subst (λ (z : Reply). Appends held held' (reply_response closing z)) y.is x)
put_reply step gives closing ticks moment e a b r held held' (Err fault.WriteFault) y x =
    (y.replies, nothing_given, y.known, tt, y.entered, (x.0, subst (λ (z : Reply). Appends held held' (take x.0 (reply_response closing z))) y.is x.2))
put_reply step gives closing ticks moment e a b r held held' (Err fault.NoMemory) y x =
    let z = begun_all step (entered_for ticks moment e) a b y.replies y.entered in
    (nothing_given, record { replies = z.replies; made = z.made; prefix = z.prefix; entered = z.entered }, x)

-- it was asked whose submission the judging is, and the response gives the job, or is that to the reply
pub put_job : {A : Type 0} (step : A → Entered → A → Type 0) (gives : Gives) (closing : Bool) (moment : ℕ) (p : JobPart) (judging test : ℕ) (a b : A) (r : Reply) (held held' : Option (List ℕ)) (result : Result (Unit {0}) ResponseFault)
    → IsEntered step (entered_for false moment (event.Owner judging)) a b r → PutsJob gives closing p judging test r held held' result → PutsAnswer step gives closing moment (asked.Job p judging test) a b held held' result
put_job step gives closing moment p judging test a b r held held' (Ok u) y x = (
  y.replies,
  x.0,
  y.known,
  subst (λ (z : Reply). IsCaseOf gives test (owner_in z) x.0) y.is x.1,
  y.entered,
  subst (λ (z : Reply). Appends held held' (job_or_reply closing p judging test (owner_in z) z x.0.case)) y.is x.2,
)
put_job step gives closing moment p judging test a b r held held' (Err fault.WriteFault) y x = (
  y.replies,
  x.0,
  y.known,
  subst (λ (z : Reply). IsCaseOf gives test (owner_in z) x.0) y.is x.1,
  y.entered,
  (x.2.0, subst (λ (z : Reply). Appends held held' (take x.2.0 (job_or_reply closing p judging test (owner_in z) z x.0.case))) y.is x.2.1),
)
put_job step gives closing moment p judging test a b r held held' (Err fault.NoMemory) y x =
    let z = begun_all step (entered_for false moment (event.Owner judging)) a b y.replies y.entered in
    (nothing_given, record { replies = z.replies; made = z.made; prefix = z.prefix; entered = z.entered }, x)

-- memory ran out at the event
pub begun_event : {A : Type 0} (step : A → Entered → A → Type 0) (gives : Gives) (closing ticks : Bool) (moment : ℕ) (e : Event) (a b : A) (held : Option (List ℕ))
    → IsBegun step (entered_for ticks moment e) a b → PutsAnswer step gives closing moment (asked.Event ticks e) a b held held (Err fault.NoMemory)
begun_event step gives closing ticks moment e a b held z =
    (nothing_given, record { replies = z.replies; made = z.made; prefix = z.prefix; entered = z.entered }, Keeps-refl held)

-- memory ran out where it was asked whose submission the judging is
pub begun_job : {A : Type 0} (step : A → Entered → A → Type 0) (gives : Gives) (closing : Bool) (moment : ℕ) (p : JobPart) (judging test : ℕ) (a b : A) (held : Option (List ℕ))
    → IsBegun step (entered_for false moment (event.Owner judging)) a b → PutsAnswer step gives closing moment (asked.Job p judging test) a b held held (Err fault.NoMemory)
begun_job step gives closing moment p judging test a b held z =
    (nothing_given, record { replies = z.replies; made = z.made; prefix = z.prefix; entered = z.entered }, Keeps-refl held)

-- what is given by a look
abbrev look_given : ViewValue → Reply → Given
look_given view r = record { case = None; look = r; contest = view }

-- what was put of rows is what was put of a look that gave them
pub rows_put : (closing : Bool) (rows : List Answer) (held held' : Option (List ℕ)) (result : Result (Unit {0}) ResponseFault)
    → Writes held held' (rows_response closing (reply.Board rows)) result → PutsRows closing (reply.Board rows) held held' result
rows_put closing rows held held' (Ok u) x = (tt, x)
rows_put closing rows held held' (Err fault.WriteFault) x = (tt, (x.0, x.2))
rows_put closing rows held held' (Err fault.NoMemory) x = x

-- a look was made, and what it gave was put
pub look_put : {A : Type 0} (step : A → Entered → A → Type 0) (closing : Bool) (a b : A) (r : Reply) (held held' : Option (List ℕ)) (result : Result (Unit {0}) ResponseFault)
    → step a (with_look r) b → PutsRows closing r held held' result → PutsLook step closing a b held held' result
look_put step closing a b r held held' result y x = (r, y, x)

-- what the public sees was asked, and what a look gave was put
pub put_public : {A : Type 0} (step : A → Entered → A → Type 0) (gives : Gives) (closing : Bool) (moment : ℕ) (a b : A) (held held' : Option (List ℕ)) (result : Result (Unit {0}) ResponseFault)
    → PutsLook step closing a b held held' result → PutsAnswer step gives closing moment asked.Public a b held held' result
put_public step gives closing moment a b held held' (Ok u) x = (no_replies, look_given no_view x.0, no_replies-known, x.2.0, (b, x.1, refl), x.2.1)
put_public step gives closing moment a b held held' (Err fault.WriteFault) x = (no_replies, look_given no_view x.0, no_replies-known, x.2.0, (b, x.1, refl), x.2.1)
put_public step gives closing moment a b held held' (Err fault.NoMemory) x =
    (look_given no_view x.0, record { replies = no_replies; made = with_look x.0 ∷ []; prefix = ([], refl); entered = (b, x.1, refl) }, x.2)

-- a look gave a board, and the response is the page with its rows
pub put_page : {A : Type 0} (step : A → Entered → A → Type 0) (gives : Gives) (closing : Bool) (moment : ℕ) (a b : A) (rows : List Answer) (held held' : Option (List ℕ)) (result : Result (Unit {0}) ResponseFault)
    → step a (with_look (reply.Board rows)) b → Writes held held' (page_response closing gives.contest (reply.Board rows)) result → PutsAnswer step gives closing moment asked.Page a b held held' result
put_page step gives closing moment a b rows held held' (Ok u) y x = (no_replies, look_given gives.contest (reply.Board rows), no_replies-known, (tt, refl), (b, y, refl), x)
put_page step gives closing moment a b rows held held' (Err fault.WriteFault) y x = (no_replies, look_given gives.contest (reply.Board rows), no_replies-known, (tt, refl), (b, y, refl), (x.0, x.2))
put_page step gives closing moment a b rows held held' (Err fault.NoMemory) y x =
    (look_given gives.contest (reply.Board rows), record { replies = no_replies; made = with_look (reply.Board rows) ∷ []; prefix = ([], refl); entered = (b, y, refl) }, x)

pub no_page : {A : Type 0} (step : A → Entered → A → Type 0) (gives : Gives) (closing : Bool) (moment : ℕ) (a b : A) (r : Reply) (held : Option (List ℕ))
    → step a (with_look r) b → PutsAnswer step gives closing moment asked.Page a b held held (Err fault.NoMemory)
no_page step gives closing moment a b r held y =
    (look_given no_view r, record { replies = no_replies; made = with_look r ∷ []; prefix = ([], refl); entered = (b, y, refl) }, Keeps-refl held)

-- nothing is entered for the names of the contest
pub put_contest : {A : Type 0} (step : A → Entered → A → Type 0) (gives : Gives) (closing : Bool) (moment : ℕ) (a : A) (held held' : Option (List ℕ)) (result : Result (Unit {0}) ResponseFault)
    → Writes held held' (contest_response closing gives.contest) result → PutsAnswer step gives closing moment asked.Contest a a held held' result
put_contest step gives closing moment a held held' (Ok u) x = (no_replies, look_given gives.contest reply.Nothing, no_replies-known, refl, refl, x)
put_contest step gives closing moment a held held' (Err fault.WriteFault) x = (no_replies, look_given gives.contest reply.Nothing, no_replies-known, refl, refl, (x.0, x.2))
put_contest step gives closing moment a held held' (Err fault.NoMemory) x = (nothing_given, begun_none step asked.Contest moment nothing_given a, x)

-- no job was asked of the cases: the response is that to the reply
pub job_refused : (gives : Gives) (closing : Bool) (p : JobPart) (judging test : ℕ) (r : Reply) (held held' : Option (List ℕ)) (result : Result (Unit {0}) ResponseFault)
    → owner_in r ≡ None → Writes held held' (reply_response closing r) result → PutsJob gives closing p judging test r held held' result
job_refused gives closing p judging test r held held' (Ok u) none x = (
  nothing_given,
  subst (λ (z : Option ℕ). IsCaseOf gives test z nothing_given) (sym none) tt,
  subst (λ (z : Option ℕ). Appends held held' (job_or_reply closing p judging test z r None)) (sym none) x,
)
job_refused gives closing p judging test r held held' (Err fault.WriteFault) none x = (
  nothing_given,
  subst (λ (z : Option ℕ). IsCaseOf gives test z nothing_given) (sym none) tt,
  (x.0, subst (λ (z : Option ℕ). Appends held held' (take x.0 (job_or_reply closing p judging test z r None))) (sym none) x.2),
)
job_refused gives closing p judging test r held held' (Err fault.NoMemory) none x = x

-- the cases were asked, and gave this
pub job_given : (gives : Gives) (closing : Bool) (p : JobPart) (judging test submission : ℕ) (case : Option TestCase) (r : Reply) (held held' : Option (List ℕ)) (result : Result (Unit {0}) ResponseFault)
    → owner_in r ≡ Some submission → gives.case submission test case → Writes held held' (job_response closing p judging test case) result → PutsJob gives closing p judging test r held held' result
job_given gives closing p judging test submission case r held held' (Ok u) some may x =
    let given : Given = record { case = case; look = reply.Nothing; contest = no_view } in (
      given,
      subst (λ (z : Option ℕ). IsCaseOf gives test z given) (sym some) may,
      subst (λ (z : Option ℕ). Appends held held' (job_or_reply closing p judging test z r case)) (sym some) x,
    )
job_given gives closing p judging test submission case r held held' (Err fault.WriteFault) some may x =
    let given : Given = record { case = case; look = reply.Nothing; contest = no_view } in (
      given,
      subst (λ (z : Option ℕ). IsCaseOf gives test z given) (sym some) may,
      (x.0, subst (λ (z : Option ℕ). Appends held held' (take x.0 (job_or_reply closing p judging test z r case))) (sym some) x.2),
    )
job_given gives closing p judging test submission case r held held' (Err fault.NoMemory) some may x = x

-- what is written where the replier gave a text, or none
job_text_is : (may : Option TestCase → Type 0) (closing : Bool) (p : JobPart) (judging test : ℕ) (text : List ℕ) → (x : IsJobText may p judging test (Some text)) → response_with closing 200 text ≡ job_response closing p judging test x.0
unfolding job_response
job_text_is may closing p judging test text (None, m, is) = absurd (cc is)
job_text_is may closing p judging test text (Some c, m, is) = ap (response_with closing 200) (let same : text ≡ text_for p judging test c = cc is in same)

no_job_is : (may : Option TestCase → Type 0) (closing : Bool) (p : JobPart) (judging test : ℕ) → (x : IsJobText may p judging test None) → response_with closing 404 no_job ≡ job_response closing p judging test x.0
unfolding job_response
no_job_is may closing p judging test (None, m, is) = refl
no_job_is may closing p judging test (Some c, m, is) = absurd (cc is)

pub job_text_given : (gives : Gives) (closing : Bool) (p : JobPart) (judging test submission : ℕ) (text : List ℕ) (r : Reply) (held held' : Option (List ℕ)) (result : Result (Unit {0}) ResponseFault)
    → owner_in r ≡ Some submission → IsJobText (gives.case submission test) p judging test (Some text) → Writes held held' (response_with closing 200 text) result → PutsJob gives closing p judging test r held held' result
job_text_given gives closing p judging test submission text r held held' result some x written =
    job_given gives closing p judging test submission x.0 r held held' result some x.1
    (subst (λ (z : List ℕ). Writes held held' z result) (job_text_is (gives.case submission test) closing p judging test text x) written)

pub no_job_given : (gives : Gives) (closing : Bool) (p : JobPart) (judging test submission : ℕ) (r : Reply) (held held' : Option (List ℕ)) (result : Result (Unit {0}) ResponseFault)
    → owner_in r ≡ Some submission → IsJobText (gives.case submission test) p judging test None → Writes held held' (response_with closing 404 no_job) result → PutsJob gives closing p judging test r held held' result
no_job_given gives closing p judging test submission r held held' result some x written =
    job_given gives closing p judging test submission x.0 r held held' result some x.1
    (subst (λ (z : List ℕ). Writes held held' z result) (no_job_is (gives.case submission test) closing p judging test x) written)

-- what was entered for the request, with these replies, and what was given beside them
abbrev exchange : Request → ℕ → Replies → Given → Bool → Exchange
exchange r moment replies given closing = record { request = r; moment = moment; replies = replies; given = given; asked = closing }

exchange_with : {A : Type 0} (step : A → Entered → A → Type 0) (around : Around) (closing : Bool) (moment : ℕ) (a b : A) (r : Request) (replies : Replies) (given : Given)
    → around.shows moment ≡ true → (closing ≡ true → around.asks ≡ true) → AreKnown replies → IsGiven around.gives (asked_of r) replies.answer given → AreEntered step a (entered_by moment (asked_of r) replies given) b
    → IsExchange step around a r (exchange r moment replies given closing) b
exchange_with step around closing moment a b r replies given shown may known is entered =
    record { is = refl; whole = record { shown = shown; known = known; given = is; asked = may }; entered = entered }

-- what was put of the answer to what a request asks
pub one_answered : {A : Type 0} (step : A → Entered → A → Type 0) (around : Around) (close closing : Bool) (moment : ℕ) (a b : A) (r : Request) (what : Asked) (held held' : Option (List ℕ)) (written : Result (Unit {0}) ResponseFault)
    → around.shows moment ≡ true → (closing ≡ true → around.asks ≡ true) → what ≡ asked_of r → close ≡ r.close → PutsAnswer step around.gives closing moment what a b held held' written
    → OneAnswered step around a b r held held' (how_after written (close_or close closing))
one_answered {A} step around true closing moment a b r what held held' (Ok u) shown may is same x =
    let y = subst (λ (z : Asked). PutsAnswer step around.gives closing moment z a b held held' (Ok u)) is x in
    (exchange r moment y.0 y.1 closing, exchange_with step around closing moment a b r y.0 y.1 shown may y.2 y.3 y.4, y.5, inl (sym same))
one_answered {A} step around false true moment a b r what held held' (Ok u) shown may is same x =
    let y = subst (λ (z : Asked). PutsAnswer step around.gives true moment z a b held held' (Ok u)) is x in
    (exchange r moment y.0 y.1 true, exchange_with step around true moment a b r y.0 y.1 shown may y.2 y.3 y.4, y.5, inr refl)
one_answered {A} step around false false moment a b r what held held' (Ok u) shown may is same x =
    let y = subst (λ (z : Asked). PutsAnswer step around.gives false moment z a b held held' (Ok u)) is x in
    (exchange r moment y.0 y.1 false, exchange_with step around false moment a b r y.0 y.1 shown may y.2 y.3 y.4, y.5, (sym same, refl))
one_answered {A} step around close closing moment a b r what held held' (Err fault.WriteFault) shown may is same x =
    let y = subst (λ (z : Asked). PutsAnswer step around.gives closing moment z a b held held' (Err fault.WriteFault)) is x in
    (exchange r moment y.0 y.1 closing, exchange_with step around closing moment a b r y.0 y.1 shown may y.2 y.3 y.4, y.5)
one_answered {A} step around close closing moment a b r what held held' (Err fault.NoMemory) shown may is same x =
    let y = subst (λ (z : Asked). PutsAnswer step around.gives closing moment z a b held held' (Err fault.NoMemory)) is x in
    (record { moment = moment; shown = shown; given = y.0; begun = y.1 }, y.2)

-- no memory was left to read the request
pub one_unread : {A : Type 0} (step : A → Entered → A → Type 0) (around : Around) (moment : ℕ) (a : A) (r : Request) (held : Option (List ℕ))
    → around.shows moment ≡ true → IsPartly step around a r a × Keeps held held
one_unread step around moment a r held shown =
    (record { moment = moment; shown = shown; given = nothing_given; begun = begun_none step (asked_of r) moment nothing_given a }, Keeps-refl held)
