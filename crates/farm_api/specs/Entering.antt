-- Events that are entered one after the other, with their replies, and looks at what the public sees.
use Rattle.std.specs.Prelude.{◌≡◌, ◌≢◌, ◌⊎◌, ℕ, List, [], ◌∷◌, ◌++◌, map, Bool, true, false, Result, Ok, Err, OnOk}
use mathlib.Core.List.{IsPrefix}
use mathlib.Core.Logic.{inl, inr}
use Rattle.farm_kinds.specs.declared.outcomes.NoMemory.{NoMemory}
use Rattle.farm_kinds.specs.declared.events.Event.{Event}
use Rattle.farm_kinds.specs.declared.events.Reply.{Reply}
use Rattle.farm_kinds.specs.declared.events.Reply.TheVariants as reply
use Rattle.farm_api.specs.Conversation.{tick, down_after}

-- the reply says that memory ran out
abbrev pub is_no_memory : Reply → Bool
is_no_memory reply.NoMemory = true
is_no_memory r = false

-- an event and its reply
pub record Answered : Type 0 where
  pub event : Event
  pub reply : Reply

-- an event with its reply; or a look at what the public sees, and what it gave: a board, or another reply where none was to
-- be had
abbrev pub Entered : Type 0
Entered = Answered ⊎ Reply

abbrev pub with_reply : Event → Reply → Entered
with_reply e r = inl (record { event = e; reply = r })

abbrev pub with_look : Reply → Entered
with_look r = inr r

-- what was entered without the looks
abbrev pub without_looks : List Entered → List Entered
without_looks [] = []
without_looks (inl x ∷ xs) = inl x ∷ without_looks xs
without_looks (inr r ∷ xs) = without_looks xs

-- the events, each with this reply
abbrev pub all_with_reply : Reply → List Event → List Entered
all_with_reply r events = map (λ e. with_reply e r) events

-- What was entered leads from a state into a state. A step leads from a state, by an event with its reply or by a look,
-- into a state.
abbrev pub AreEntered : {A : Type 0} → (A → Entered → A → Type 0) → A → List Entered → A → Type 0
AreEntered {A} step a [] b = b ≡ a
AreEntered {A} step a (x ∷ xs) b = (m : A) × step a x m × AreEntered step m xs b

-- One event, and what belongs to it

-- the replies to the moment, to the event, and to the host's going down, where each of these is entered
pub record Replies : Type 0 where
  pub ticked : Reply
  pub answer : Reply
  pub downed : Reply

-- none of them says that memory ran out
pub record AreKnown (r : Replies) : Type 0 where
  pub ticked : r.ticked ≢ reply.NoMemory
  pub answer : r.answer ≢ reply.NoMemory
  pub downed : r.downed ≢ reply.NoMemory

-- what is entered for an event: before it the moment, where time goes on first, and behind it what follows from its
-- reply
abbrev pub entered_for : Bool → ℕ → Event → Replies → List Entered
entered_for ticks moment e r = all_with_reply r.ticked (tick ticks moment)
    ++ with_reply e r.answer ∷ all_with_reply r.downed (down_after e r.answer)

-- a prefix of what these replies make of it was entered
pub record IsBegun {A : Type 0} (step : A → Entered → A → Type 0) (whole : Replies → List Entered) (a b : A)
    : Type 0 where
  pub replies : Replies
  pub made : List Entered
  pub prefix : IsPrefix made (whole replies)
  pub entered : AreEntered step a made b

-- the events, of which there is at most one, were entered, and the result says whether memory ran out
pub record EntersAside {A : Type 0} (step : A → Entered → A → Type 0) (events : List Event) (a b : A)
    (result : Result (Unit {0}) NoMemory) : Type 0 where
  pub answer : Reply
  pub entered : AreEntered step a (all_with_reply answer events) b
  pub known : OnOk result (answer ≢ reply.NoMemory)

-- all was entered
pub record IsEntered {A : Type 0} (step : A → Entered → A → Type 0) (whole : Replies → List Entered) (a b : A)
    (answer : Reply) : Type 0 where
  pub replies : Replies
  pub is : answer ≡ replies.answer
  pub known : AreKnown replies
  pub entered : AreEntered step a (whole replies) b

-- all was entered, or memory ran out behind a prefix of it
abbrev pub Enters : {A : Type 0} → (A → Entered → A → Type 0) → Bool → ℕ → Event → A → A
    → Result Reply NoMemory → Type 0
Enters step ticks moment e a b (Ok answer) = IsEntered step (entered_for ticks moment e) a b answer
Enters step ticks moment e a b (Err none) = IsBegun step (entered_for ticks moment e) a b
