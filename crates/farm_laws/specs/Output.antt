-- The promise over the bytes of a script and over what is written for them.
use Rattle.std.specs.Prelude.{◌≡◌, ◌<◌, ℕ, ◌+◌, List, [], ◌∷◌, ◌++◌, length, take, drop, slice_get, flat_map, Option, Some, None, IsSome, ◌==◌, if◌then◌else◌}
use Rattle.std.specs.Option.{option_map}
use Rattle.std.specs.List.{join_with_byte}
use Rattle.farm_kinds.specs.declared.kinds.Kind.{Kind}
use Rattle.farm_kinds.specs.declared.outcomes.Verdict.{Verdict}
use Rattle.farm_kinds.specs.declared.outcomes.Answer.TheVariants.{Final}
use Rattle.farm_kinds.specs.declared.outcomes.Task.{Task}
use Rattle.farm_kinds.specs.declared.events.Event.{Event}
use Rattle.farm_kinds.specs.declared.events.Event.TheVariants as event
use Rattle.farm_kinds.specs.declared.events.Reply.{Reply}
use Rattle.farm_kinds.specs.declared.events.Reply.TheVariants as reply
use Rattle.farm_io.specs.Lines.{Cut, lines_of, line_feed}
use Rattle.farm_model.specs.State.{State, SettingsValue, start}
use Rattle.farm_model.specs.Replay.{given_by}
use Rattle.farm_model.specs.Script.{after_line, output_from, script_output, events_of_line}
use Rattle.farm_model.specs.Texts.{reply_words}
use Rattle.farm_laws.specs.Laws.{reached, ReplyKeepsPromise}

-- Lines and their events

-- the events of the lines
abbrev pub events_in : List Cut → List Event
events_in lines = flat_map events_of_line lines

-- the state that the lines lead to, from the empty farm on
abbrev pub state_at : SettingsValue → List Cut → State
state_at settings lines = reached settings (events_in lines)

-- The output is what is written for each line, in the state to which the lines before it led.
abbrev pub OutputIsReplayed : SettingsValue → List ℕ → Type 0
OutputIsReplayed settings bytes = (before : List Cut) (line : Cut) (later : List Cut) →
    let state = state_at settings before in
    let next = state_at settings (before ++ line ∷ []) in
    lines_of bytes ≡ before ++ line ∷ later →
    script_output settings bytes
    ≡ output_from (start settings) before ++ (after_line state line).1 ++ output_from next later

-- Places: the line number n of the bytes stands behind n others, and what is written for it behind what is written
-- for them.

abbrev pub events_before : List ℕ → ℕ → List Event
events_before bytes n = events_in (take n (lines_of bytes))

-- the line is read as this event
abbrev pub IsReadAs : List ℕ → ℕ → Event → Type 0
IsReadAs bytes n e = option_map events_of_line (slice_get (lines_of bytes) n) ≡ Some (e ∷ [])

-- the place in the output of what is written for the line
abbrev pub place_of : SettingsValue → List ℕ → ℕ → ℕ
place_of settings bytes n = length (output_from (start settings) (take n (lines_of bytes)))

-- the bytes up to the first line feed, where there is one
abbrev pub first_line : List ℕ → Option (List ℕ)
first_line [] = None
first_line (b ∷ bs) = if b == line_feed then Some [] else option_map (λ rest. b ∷ rest) (first_line bs)

-- the line of the text at the place of the line, where a whole one was written
abbrev pub written_at : SettingsValue → List ℕ → List ℕ → ℕ → Option (List ℕ)
written_at settings bytes text n = first_line (drop (place_of settings bytes n) text)

-- the text has at the place of the line the words of this reply
abbrev pub IsTold : SettingsValue → List ℕ → List ℕ → ℕ → Reply → Type 0
IsTold settings bytes text n r = written_at settings bytes text n ≡ Some (join_with_byte 32 (reply_words r))

abbrev pub IsWritten : SettingsValue → List ℕ → List ℕ → ℕ → Type 0
IsWritten settings bytes text n = IsSome (written_at settings bytes text n)

-- The promise

-- what is written for a line that is read as an event keeps the promise for that event, by what the lines before it
-- made of the farm
abbrev pub EachLineKeepsPromise : SettingsValue → List ℕ → List ℕ → Type 0
EachLineKeepsPromise settings bytes text = (n : ℕ) (e : Event) →
    IsReadAs bytes n e → IsWritten settings bytes text n →
    ReplyKeepsPromise settings (events_before bytes n) e
    (reached settings (events_before bytes (n + 1))) (IsTold settings bytes text n)

-- once `final` and a verdict is written for a `show`, that is written for each later one of the same judging
abbrev pub FinalStaysWritten : SettingsValue → List ℕ → List ℕ → Type 0
FinalStaysWritten settings bytes text = (n m j : ℕ) (v : Verdict) → n < m →
    IsReadAs bytes n (event.Show j) → IsReadAs bytes m (event.Show j) → IsWritten settings bytes text m →
    IsTold settings bytes text n (reply.Shown (Final v)) → IsTold settings bytes text m (reply.Shown (Final v))

-- the line is read as a result of this task
abbrev pub IsResultOf : List ℕ → ℕ → Task → Type 0
IsResultOf bytes n task = (e : Event) × (kind : Kind) × (IsReadAs bytes n e) × (given_by e ≡ Some (task, kind))

-- `counted` is written for at most one line that is a result of the task
abbrev pub CountedOnceWritten : SettingsValue → List ℕ → List ℕ → Type 0
CountedOnceWritten settings bytes text = (n m : ℕ) (task : Task) → IsResultOf bytes n task → IsResultOf bytes m task →
    IsTold settings bytes text n reply.Counted → IsTold settings bytes text m reply.Counted → n ≡ m

-- A text that is written for a script, or a prefix of it, keeps the promise: for each line that is read as `show j` of
-- a judging that is there and whose answer was written, that is `final` and the verdict exactly where the results
-- counted in the lines before it say so, and so for the other parts.
pub record OutputKeepsPromise (settings : SettingsValue) (bytes text : List ℕ) : Type 0 where
  pub each_line : EachLineKeepsPromise settings bytes text
  pub final_stays : FinalStaysWritten settings bytes text
  pub counted_once : CountedOnceWritten settings bytes text

-- each line that is read as an event was answered
abbrev pub EachLineIsWritten : SettingsValue → List ℕ → List ℕ → Type 0
EachLineIsWritten settings bytes text = (n : ℕ) (e : Event) → IsReadAs bytes n e → IsWritten settings bytes text n

-- a prefix of the script's output, or all of it
abbrev pub PrefixKeepsPromise : SettingsValue → List ℕ → Type 0
PrefixKeepsPromise settings bytes = (text more : List ℕ) →
    text ++ more ≡ script_output settings bytes → OutputKeepsPromise settings bytes text

-- the whole output
abbrev pub WholeIsWritten : SettingsValue → List ℕ → Type 0
WholeIsWritten settings bytes = EachLineIsWritten settings bytes (script_output settings bytes)
