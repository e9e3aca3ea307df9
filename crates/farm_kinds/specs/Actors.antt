-- Who acts in an event of the jury.
use Rattle.std.specs.Prelude.{ℕ, List, Option, Some, None}
use Rattle.farm_kinds.specs.declared.events.Event.{Event}
use Rattle.farm_kinds.specs.declared.events.Event.TheVariants as event

-- who acts, where the event is the jury's: the jury's events are entered in the audit log where they are accepted
abbrev pub jury_actor : Event → Option (List ℕ)
jury_actor (event.Problem who name tests) = Some who
jury_actor (event.Replace who name tests) = Some who
jury_actor (event.Host name) = None
jury_actor (event.Submit problem class broken) = None
jury_actor (event.Claim host) = None
jury_actor (event.Fetch host most) = None
jury_actor (event.Result host j test kind) = None
jury_actor (event.Entry j test kind) = None
jury_actor (event.Renew host j test) = None
jury_actor (event.Tick moment) = None
jury_actor (event.Down host) = None
jury_actor (event.Show j) = None
jury_actor (event.Owner j) = None
jury_actor event.Board = None
jury_actor (event.Rejudge who list) = Some who
jury_actor (event.Matrix r) = None
jury_actor (event.Apply who r) = Some who
jury_actor (event.Cancel who r) = Some who
jury_actor (event.Verify who j) = Some who
jury_actor (event.Ask who j) = Some who
jury_actor event.Audit = None
