-- The farm's step: each event's new state and reply.
use Rattle.std.specs.Prelude.{◌≡◌, ◌≢◌, Bool, true, false, is_none, IsTrue, None}
use Rattle.farm_kinds.specs.declared.events.Event.TheVariants as event
use Rattle.farm_kinds.specs.declared.events.Event.{Event}
use Rattle.farm_kinds.specs.declared.events.Reply.{Reply}
use Rattle.farm_kinds.specs.declared.events.Reply.TheVariants as reply
use Rattle.farm_model.specs.Refusing.{refused_or}
use Rattle.farm_model.specs.State.{State, host_number}
use Rattle.farm_model.specs.Refusals.{refusal_of}
use Rattle.farm_model.specs.Changes.{accepted}

-- a refused event changes nothing, and an accepted one does what it is to do
abbrev pub farm_step : State → Event → State × Reply
farm_step s e = refused_or s (refusal_of s e) (accepted s e)

-- the events that take memory where they are accepted; a host does where its name is new
abbrev pub takes_memory : State → Event → Bool
takes_memory s (event.Problem who name tests) = true
takes_memory s (event.Replace who name tests) = true
takes_memory s (event.Host name) = is_none (host_number s.hosts name)
takes_memory s (event.Submit problem class broken) = true
takes_memory s (event.Claim host) = false
takes_memory s (event.Fetch host most) = false
takes_memory s (event.Result host j test kind) = false
takes_memory s (event.Entry j test kind) = false
takes_memory s (event.Renew host j test) = false
takes_memory s (event.Tick moment) = false
takes_memory s (event.Down host) = false
takes_memory s (event.Show j) = false
takes_memory s (event.Owner j) = false
takes_memory s event.Board = true
takes_memory s (event.Rejudge who list) = true
takes_memory s (event.Matrix r) = true
takes_memory s (event.Apply who r) = true
takes_memory s (event.Cancel who r) = true
takes_memory s (event.Verify who j) = true
takes_memory s (event.Ask who j) = true
takes_memory s event.Audit = false

-- memory may be wanting: the event takes it, and is not refused
pub record MayWant (s : State) (e : Event) : Type 0 where
  pub takes : IsTrue (takes_memory s e)
  pub accepted : refusal_of s e ≡ None

-- an event was answered as the farm's step says, or memory was wanting and nothing changed
pub record Stepped (old : State) (e : Event) (new : State) (r : Reply) : Type 0 where
  pub wanted : r ≡ reply.NoMemory → MayWant old e
  pub kept : r ≡ reply.NoMemory → new ≡ old
  pub state : r ≢ reply.NoMemory → new ≡ (farm_step old e).0
  pub answer : r ≢ reply.NoMemory → r ≡ (farm_step old e).1
