-- Which events of a run are stored: those that changed the farm, or may have.
use Rattle.std.specs.Prelude.{◌≡◌, Bool, true, false, ◌&&◌, not, if◌then◌else◌, List, [], ◌∷◌}
use Rattle.farm_kinds.specs.declared.events.Event.{Event}
use Rattle.farm_kinds.specs.declared.events.Event.TheVariants as event
use Rattle.farm_kinds.specs.declared.events.Reply.{Reply}
use Rattle.farm_kinds.specs.declared.events.Reply.TheVariants as reply
use Rattle.farm_model.specs.State.{State}
use Rattle.farm_model.specs.Farm.{farm_step}
use Rattle.farm_model.specs.Replay.{reply_to}

-- the event only looks at the farm
abbrev pub is_look : Event → Bool
is_look (event.Problem who name tests) = false
is_look (event.Replace who name tests) = false
is_look (event.Host name) = false
is_look (event.Submit problem class broken) = false
is_look (event.Claim host) = false
is_look (event.Fetch host most) = false
is_look (event.Result host j test kind) = false
is_look (event.Entry j test kind) = false
is_look (event.Renew host j test) = false
is_look (event.Tick moment) = false
is_look (event.Down host) = false
is_look (event.Show j) = true
is_look (event.Owner j) = true
is_look event.Board = true
is_look (event.Rejudge who list) = false
is_look (event.Matrix r) = true
is_look (event.Apply who r) = false
is_look (event.Cancel who r) = false
is_look (event.Verify who j) = false
is_look (event.Ask who j) = false
is_look event.Audit = true

-- the event was done: the reply is no refusal, and not that no task is open
abbrev pub is_done : Reply → Bool
is_done (reply.Problem name version) = true
is_done (reply.Host name) = true
is_done (reply.Submitted submission judging) = true
is_done (reply.Handed task until) = true
is_done (reply.Batch judging tests until) = true
is_done reply.Counted = true
is_done (reply.Until until) = true
is_done (reply.Ended count) = true
is_done (reply.Shown answer) = true
is_done (reply.Owned submission) = true
is_done (reply.Board rows) = true
is_done (reply.Rejudging number first last) = true
is_done (reply.Matrix rows members) = true
is_done (reply.Applied members) = true
is_done (reply.Cancelled members) = true
is_done (reply.Verified judging) = true
is_done (reply.Audit count head) = true
is_done r = false

-- the event e is stored, where it was answered r
abbrev pub is_kept : Event → Reply → Bool
is_kept e r = not (is_look e) && is_done r

-- the events of a run from a state on that are stored
abbrev pub kept_events : State → List Event → List Event
kept_events s [] = []
kept_events s (e ∷ es) =
    if is_kept e (reply_to s e) then e ∷ kept_events (farm_step s e).0 es else kept_events (farm_step s e).0 es
