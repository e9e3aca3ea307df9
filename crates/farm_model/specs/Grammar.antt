-- The lines that are events.
use Rattle.std.specs.Prelude.{ℕ, List, [], ◌∷◌, Option, Some, None, Result, Ok, Err, Bool, true, false, ◌==◌, ◌&&◌, nat_le, if◌then◌else◌, codes}
use Rattle.std.specs.Option.{option_or}
use Rattle.std.specs.Str.{bytes_eq}
use Rattle.farm_kinds.specs.declared.events.Event.{Event}
use Rattle.farm_kinds.specs.declared.events.Event.TheVariants as event
use Rattle.farm_kinds.specs.declared.events.LineFault.{LineFault}
use Rattle.farm_kinds.specs.declared.events.LineFault.TheVariants as fault
use Rattle.farm_kinds.specs.declared.outcomes.Class.{Class}
use Rattle.farm_kinds.specs.declared.outcomes.Class.TheVariants.{High, Normal, Low}
use Rattle.farm_kinds.specs.Names.{name_read, jury}
use Rattle.farm_kinds.specs.Kinds.{kind_named}
use Rattle.farm_model.specs.Limits.{max_batch}
use Rattle.farm_model.specs.Words.{words}
use Rattle.farm_model.specs.Numbers.{number_of, moment_of, list_of}

infixl 10 ◌>>=◌
abbrev pub ◌>>=◌ : {A B : Type 0} → Option A → (A → Option B) → Option B
None >>= f = None
(Some x) >>= f = f x

-- `problem NAME N`
abbrev pub problem_line : List ℕ → List (List ℕ) → Option Event
problem_line who (name ∷ tests ∷ []) = do
  n ← name_read name
  t ← number_of tests
  Some (event.Problem who n t)
problem_line who ws = None

-- `replace NAME N`
abbrev pub replace_line : List ℕ → List (List ℕ) → Option Event
replace_line who (name ∷ tests ∷ []) = do
  n ← name_read name
  t ← number_of tests
  Some (event.Replace who n t)
replace_line who ws = None

-- `rejudge [LIST]`
abbrev pub rejudge_line : List ℕ → List (List ℕ) → Option Event
rejudge_line who [] = Some (event.Rejudge who [])
rejudge_line who (list ∷ []) = do
  ns ← list_of list
  Some (event.Rejudge who ns)
rejudge_line who ws = None

-- a line of one number
abbrev pub number_line : (ℕ → Event) → List (List ℕ) → Option Event
number_line e (number ∷ []) = do
  n ← number_of number
  Some (e n)
number_line e ws = None

-- the event of a line of the jury that begins with this word
abbrev pub jury_event_of : List ℕ → List ℕ → List (List ℕ) → Option Event
jury_event_of who word ws =
    if bytes_eq word (codes "problem") then problem_line who ws
    else if bytes_eq word (codes "replace") then replace_line who ws
    else if bytes_eq word (codes "rejudge") then rejudge_line who ws
    else if bytes_eq word (codes "apply") then number_line (event.Apply who) ws
    else if bytes_eq word (codes "cancel") then number_line (event.Cancel who) ws
    else if bytes_eq word (codes "verify") then number_line (event.Verify who) ws
    else if bytes_eq word (codes "ask") then number_line (event.Ask who) ws
    else None

-- a line of one name
abbrev pub name_line : (List ℕ → Event) → List (List ℕ) → Option Event
name_line e (name ∷ []) = do
  n ← name_read name
  Some (e n)
name_line e ws = None

abbrev pub class_named : List ℕ → Option Class
class_named word =
    if bytes_eq word (codes "high") then Some High
    else if bytes_eq word (codes "normal") then Some Normal
    else if bytes_eq word (codes "low") then Some Low
    else None

-- nothing, or `broken`
abbrev pub broken_words : List (List ℕ) → Option Bool
broken_words [] = Some false
broken_words (word ∷ []) = if bytes_eq word (codes "broken") then Some true else None
broken_words ws = None

-- what stands behind the name, whose first word is a class or none
abbrev pub class_and_broken : Option Class → List (List ℕ) → List (List ℕ) → Option (Class × Bool)
class_and_broken (Some class) all others = do
  broken ← broken_words others
  Some (class, broken)
class_and_broken None all others = do
  broken ← broken_words all
  Some (Normal, broken)

-- the class, `normal` if none is said, and whether the image is broken
abbrev pub submit_words : List (List ℕ) → Option (Class × Bool)
submit_words [] = Some (Normal, false)
submit_words (word ∷ ws) = class_and_broken (class_named word) (word ∷ ws) ws

-- `submit NAME [high or normal or low] [broken]`
abbrev pub submit_line : List (List ℕ) → Option Event
submit_line [] = None
submit_line (name ∷ ws) = do
  n ← name_read name
  said ← submit_words ws
  Some (event.Submit n said.0 said.1)

-- `result HOST J T KIND`
abbrev pub result_line : List (List ℕ) → Option Event
result_line (host ∷ judging ∷ test ∷ kind ∷ []) = do
  h ← name_read host
  j ← number_of judging
  t ← number_of test
  k ← kind_named kind
  Some (event.Result h j t k)
result_line ws = None

-- `record J T KIND`
abbrev pub record_line : List (List ℕ) → Option Event
record_line (judging ∷ test ∷ kind ∷ []) = do
  j ← number_of judging
  t ← number_of test
  k ← kind_named kind
  Some (event.Entry j t k)
record_line ws = None

-- `renew HOST J T`
abbrev pub renew_line : List (List ℕ) → Option Event
renew_line (host ∷ judging ∷ test ∷ []) = do
  h ← name_read host
  j ← number_of judging
  t ← number_of test
  Some (event.Renew h j t)
renew_line ws = None

abbrev pub if_batch : ℕ → Option ℕ
if_batch n = if nat_le 1 n && nat_le n max_batch then Some n else None

-- a number of tasks that are fetched at once: from 1 to 16
abbrev pub batch_of : List ℕ → Option ℕ
batch_of word = number_of word >>= if_batch

-- `fetch HOST B`
abbrev pub fetch_line : List (List ℕ) → Option Event
fetch_line (host ∷ most ∷ []) = do
  h ← name_read host
  b ← batch_of most
  Some (event.Fetch h b)
fetch_line ws = None

-- `tick N`
abbrev pub tick_line : List (List ℕ) → Option Event
tick_line (moment ∷ []) = do
  m ← moment_of moment
  Some (event.Tick m)
tick_line ws = None

-- a line of one word
abbrev pub bare_line : Event → List (List ℕ) → Option Event
bare_line e [] = Some e
bare_line e ws = None

-- the event of a host's line that begins with this word
abbrev pub host_event_of : List ℕ → List (List ℕ) → Option Event
host_event_of word ws =
    if bytes_eq word (codes "host") then name_line event.Host ws
    else if bytes_eq word (codes "claim") then name_line event.Claim ws
    else if bytes_eq word (codes "fetch") then fetch_line ws
    else if bytes_eq word (codes "result") then result_line ws
    else if bytes_eq word (codes "renew") then renew_line ws
    else if bytes_eq word (codes "down") then name_line event.Down ws
    else None

-- the event of a line that begins with this word, and is no host's and none of the jury's
abbrev pub other_event_of : List ℕ → List (List ℕ) → Option Event
other_event_of word ws =
    if bytes_eq word (codes "submit") then submit_line ws
    else if bytes_eq word (codes "record") then record_line ws
    else if bytes_eq word (codes "tick") then tick_line ws
    else if bytes_eq word (codes "show") then number_line event.Show ws
    else if bytes_eq word (codes "owner") then number_line event.Owner ws
    else if bytes_eq word (codes "board") then bare_line event.Board ws
    else if bytes_eq word (codes "matrix") then number_line event.Matrix ws
    else if bytes_eq word (codes "audit") then bare_line event.Audit ws
    else None

-- the event of a line without `@NAME` that begins with this word; where it is the jury's, `jury` acts
abbrev pub unnamed_event_of : List ℕ → List (List ℕ) → Option Event
unnamed_event_of word ws =
    option_or (jury_event_of jury word ws) (option_or (host_event_of word ws) (other_event_of word ws))

-- the event of a line of the jury behind the name of who acts
abbrev pub named_event_of : List ℕ → List (List ℕ) → Option Event
named_event_of name [] = None
named_event_of name (word ∷ ws) = do
  who ← name_read name
  jury_event_of who word ws

-- the event of a line that begins with this word
abbrev pub event_of : List ℕ → List (List ℕ) → Option Event
event_of [] ws = None
event_of (b ∷ bs) ws = if b == 64 then named_event_of bs ws else unnamed_event_of (b ∷ bs) ws

-- a line whose first word begins with `#`
abbrev pub is_comment : List ℕ → Bool
is_comment [] = false
is_comment (b ∷ bs) = b == 35

-- an event, or a line that is bad
abbrev pub event_or_bad : Option Event → Result (Option Event) LineFault
event_or_bad None = Err fault.BadLine
event_or_bad (Some e) = Ok (Some e)

abbrev pub read_of_words : List (List ℕ) → Result (Option Event) LineFault
read_of_words [] = Ok None
read_of_words (word ∷ ws) = if is_comment word then Ok None else event_or_bad (event_of word ws)

-- what a line is read as: no event where it is empty or a comment, an event, or a bad line
abbrev pub line_read : List ℕ → Result (Option Event) LineFault
line_read text = read_of_words (words text)
