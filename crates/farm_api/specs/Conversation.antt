-- What a request asks of the farm, and what it is answered.
use Rattle.std.specs.Prelude.{ℕ, List, [], ◌∷◌, Bool, true, false, Option, Some, None, Result, Ok, Err, codes}
use Rattle.serde_json.specs.Written.{compact_text}
use Rattle.farm_kinds.specs.declared.kinds.Kind.{Kind}
use Rattle.farm_kinds.specs.declared.events.Event.{Event}
use Rattle.farm_kinds.specs.declared.events.Event.TheVariants as event
use Rattle.farm_kinds.specs.declared.events.Reply.{Reply}
use Rattle.farm_kinds.specs.declared.events.Reply.TheVariants as reply
use Rattle.wire_json.specs.declared.bodies.Body.{Body}
use Rattle.wire_json.specs.declared.bodies.Body.TheVariants as body
use Rattle.wire_json.specs.declared.faults.BodyFault.{BodyFault}
use Rattle.wire_json.specs.declared.routes.Route.{Route}
use Rattle.wire_json.specs.declared.routes.Route.TheVariants as route
use Rattle.wire_json.specs.Bodies.{body_of}
use Rattle.wire_json.specs.FaultTexts.{json_of_fault}
use Rattle.wire_json.specs.Replies.{json_of}
use Rattle.wire_job.specs.declared.parts.JobPart.{JobPart}
use Rattle.wire_job.specs.declared.parts.JobPart.TheVariants as part
use Rattle.http_door.specs.Requests.{Request}
use Rattle.http_door.specs.declared.responses.Content.TheVariants as content
use Rattle.http_door.specs.Responses.{content_response, response_with}
use Rattle.contest_page.specs.ViewValue.{ViewValue}
use Rattle.contest_page.specs.Views.{contest_text}
use Rattle.contest_page.specs.Page.{page_text}
use Rattle.farm_api.specs.declared.asking.Asked.{Asked}
use Rattle.farm_api.specs.declared.asking.Asked.TheVariants as asked
use Rattle.farm_api.specs.declared.asking.RequestFault.{RequestFault}
use Rattle.farm_api.specs.declared.asking.RequestFault.TheVariants as fault
use Rattle.farm_api.specs.declared.routes.Routed.{Routed}
use Rattle.farm_api.specs.declared.routes.Routed.TheVariants as routed
use Rattle.case_run.specs.Cases.{TestCase}
use Rattle.farm_api.specs.Routes.{routed_of}
use Rattle.farm_api.specs.Jobs.{owner_in, text_for, no_job, no_view}
use Rattle.farm_api.specs.Published.{json_of_rows}

-- Events

-- a host comes up, or goes down
abbrev pub host_event : Route → List ℕ → Option Event
host_event route.Hosts hostname = Some (event.Host hostname)
host_event route.Down hostname = Some (event.Down hostname)
host_event r hostname = None

-- a host asks for a task, or for at most so many of one judging
abbrev pub work_event : List ℕ → Option ℕ → Event
work_event hostname None = event.Claim hostname
work_event hostname (Some most) = event.Fetch hostname most

abbrev pub fetch_event : Route → List ℕ → Option ℕ → Option Event
fetch_event route.FetchWork hostname max = Some (work_event hostname max)
fetch_event r hostname max = None

-- a host gives a result
abbrev pub run_event : Route → List ℕ → ℕ → ℕ → Kind → Option Event
run_event route.AddRun hostname judging test kind = Some (event.Result hostname judging test kind)
run_event r hostname judging test kind = None

-- a host asks to hold a task for longer
abbrev pub held_event : Route → List ℕ → ℕ → ℕ → Option Event
held_event route.Renew hostname judging test = Some (event.Renew hostname judging test)
held_event r hostname judging test = None

-- the jury acts on what the path names
abbrev pub actor_event : Route → List ℕ → Option Event
actor_event (route.Verify judging) who = Some (event.Verify who judging)
actor_event (route.Ask judging) who = Some (event.Ask who judging)
actor_event (route.Apply rejudging) who = Some (event.Apply who rejudging)
actor_event (route.Cancel rejudging) who = Some (event.Cancel who rejudging)
actor_event r who = None

-- the jury has submissions judged anew
abbrev pub rejudge_event : Route → List ℕ → List ℕ → Option Event
rejudge_event route.Rejudgings submissions who = Some (event.Rejudge who submissions)
rejudge_event r submissions who = None

-- a question whose body says nothing
abbrev pub bare_event : Route → Option Event
bare_event (route.Judgement judging) = Some (event.Show judging)
bare_event (route.Submission judging) = Some (event.Owner judging)
bare_event (route.Rejudging rejudging) = Some (event.Matrix rejudging)
bare_event route.Board = Some event.Board
bare_event route.Audit = Some event.Audit
bare_event r = None

-- the event of a route with the fields of its body; a route has none with other fields than its own
abbrev pub event_of : Route → Body → Option Event
event_of r body.Empty = bare_event r
event_of r (body.Host hostname) = host_event r hostname
event_of r (body.Fetch hostname max) = fetch_event r hostname max
event_of r (body.Run hostname judging test kind) = run_event r hostname judging test kind
event_of r (body.Held hostname judging test) = held_event r hostname judging test
event_of r (body.Actor who) = actor_event r who
event_of r (body.Rejudge submissions who) = rejudge_event r submissions who

-- time goes on before the event of this route
abbrev pub ticks_first : Route → Bool
ticks_first route.FetchWork = true
ticks_first route.Renew = true
ticks_first r = false

-- a route without an event is none
abbrev pub asked_with : Bool → Option Event → Asked
asked_with ticks None = asked.Refused fault.NoRoute
asked_with ticks (Some e) = asked.Event ticks e

-- a job is asked for, or what the event of the route asks
abbrev pub asked_on : Route → Body → Asked
asked_on (route.Job judging test) b = asked.Job part.Whole judging test
asked_on (route.JobRest judging test) b = asked.Job part.Rest judging test
asked_on r b = asked_with (ticks_first r) (event_of r b)

abbrev pub asked_by : Route → Result Body BodyFault → Asked
asked_by r (Ok b) = asked_on r b
asked_by r (Err why) = asked.Refused (fault.BadBody why)

abbrev pub asked_at : Routed → List ℕ → Asked
asked_at (routed.Route r) bytes = asked_by r (body_of r bytes)
asked_at routed.Public bytes = asked.Public
asked_at routed.Page bytes = asked.Page
asked_at routed.Contest bytes = asked.Contest
asked_at routed.NoRoute bytes = asked.Refused fault.NoRoute
asked_at routed.NoMethod bytes = asked.Refused fault.NoMethod

-- what a request asks of the farm
abbrev pub asked_of : Request → Asked
asked_of r = asked_at (routed_of r.method r.target) r.body

-- time goes on to the clock's number
abbrev pub tick : Bool → ℕ → List Event
tick true m = event.Tick m ∷ []
tick false m = []

-- a host whose result differs from the one that is kept is put down
abbrev pub down_after : Event → Reply → List Event
down_after (event.Result host judging test kind) (reply.Differs kept given) = event.Down host ∷ []
down_after e r = []

-- Responses

-- the status of a reply: Not Found for what is not there, Conflict for the other refusals, OK for all else (RFC 9110,
-- section 15)
abbrev pub status_of : Reply → ℕ
status_of (reply.NoProblem name) = 404
status_of (reply.NoHost name) = 404
status_of (reply.NoJudging judging) = 404
status_of (reply.NoTest test) = 404
status_of (reply.NoSubmission submission) = 404
status_of (reply.NoRejudging rejudging) = 404
status_of (reply.Differs kept given) = 409
status_of reply.Dropped = 409
status_of (reply.BadTests tests) = 409
status_of (reply.Known name) = 409
status_of (reply.Full limit) = 409
status_of (reply.Holding limit) = 409
status_of reply.NotHanded = 409
status_of reply.NoLease = 409
status_of reply.EmptySet = 409
status_of (reply.Twice submission) = 409
status_of (reply.NotFinal number) = 409
status_of (reply.Busy submission rejudging) = 409
status_of (reply.Closed how) = 409
status_of (reply.Unfinished judging) = 409
status_of (reply.Already judging) = 409
status_of r = 200

-- the response to a reply, behind which the server ends the connection or does not
unfoldable pub reply_response : Bool → Reply → List ℕ
reply_response closing r = response_with closing (status_of r) (compact_text (json_of r))

-- Not Found, Method Not Allowed, Bad Request
abbrev pub fault_status : RequestFault → ℕ
fault_status fault.NoRoute = 404
fault_status fault.NoMethod = 405
fault_status (fault.BadBody why) = 400

abbrev pub fault_body : RequestFault → List ℕ
fault_body fault.NoRoute = codes "{\"reply\":\"no-route\"}"
fault_body fault.NoMethod = codes "{\"reply\":\"no-method\"}"
fault_body (fault.BadBody why) = compact_text (json_of_fault why)

-- the response to a request without an event
unfoldable pub fault_response : Bool → RequestFault → List ℕ
fault_response closing why = response_with closing (fault_status why) (fault_body why)

-- the response that gives so much of the job of a judging and a test; Not Found where there is no case of them
unfoldable pub job_response : Bool → JobPart → ℕ → ℕ → Option TestCase → List ℕ
job_response closing p judging test None = response_with closing 404 no_job
job_response closing p judging test (Some c) = response_with closing 200 (text_for p judging test c)

-- a job is given only where the reply names the submission of the judging
abbrev pub job_or_reply : Bool → JobPart → ℕ → ℕ → Option ℕ → Reply → Option TestCase → List ℕ
job_or_reply closing p judging test None r case = reply_response closing r
job_or_reply closing p judging test (Some submission) r case = job_response closing p judging test case

-- the response that gives the rows of a look; there is none where it gave none
unfoldable pub rows_response : Bool → Reply → List ℕ
rows_response closing (reply.Board rows) = response_with closing 200 (compact_text (json_of_rows rows))
rows_response closing r = []

-- the response that gives the page with the rows of a look; there is none where it gave none
unfoldable pub page_response : Bool → ViewValue → Reply → List ℕ
page_response closing view (reply.Board rows) = content_response content.Page closing 200 (page_text view rows)
page_response closing view r = []

-- the response that gives the names of a contest
unfoldable pub contest_response : Bool → ViewValue → List ℕ
contest_response closing view = response_with closing 200 (contest_text view)

-- what a response takes beside the reply to an event: the case of the job that it gives, or that there is none; what a
-- look at what the public sees gave; and the names of the contest
pub record Given : Type 0 where
  pub case : Option TestCase
  pub look : Reply
  pub contest : ViewValue

abbrev pub nothing_given : Given
nothing_given = record { case = None; look = reply.Nothing; contest = no_view }

abbrev pub response_in : Bool → Asked → Reply → Given → List ℕ
response_in closing (asked.Event ticks e) r given = reply_response closing r
response_in closing (asked.Job p judging test) r given = job_or_reply closing p judging test (owner_in r) r given.case
response_in closing asked.Public r given = rows_response closing given.look
response_in closing asked.Page r given = page_response closing given.contest given.look
response_in closing asked.Contest r given = contest_response closing given.contest
response_in closing (asked.Refused why) r given = fault_response closing why

-- The response to a request whose last event has this reply, where this was given; without an event no reply counts,
-- and what was given counts for a job, and for what anybody may see, alone. Where the server asks to close the connection
-- behind it (`closing`), the response says so.
abbrev pub response_of : Bool → Request → Reply → Given → List ℕ
response_of closing request r given = response_in closing (asked_of request) r given
