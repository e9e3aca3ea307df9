-- The laws of runs: what each step keeps after any events from the empty farm, and what holds of every run.
-- In the parts below `es` are the events before a step, `e` is its event and `new` the state after it. `told r` says
-- that `r` is the reply: of a step because it is that, and of a line of a script because its text is written there.
use Rattle.std.specs.Prelude.{◌≡◌, ◌≢◌, ◌↔◌, ◌⊎◌, ℕ, ◌-◌, ◌≤◌, List, [], ◌++◌, map, length, slice_set, Option, Some, None, IsSome, IsTrue, true, unwrap_or, Contains, All}
use Rattle.std.specs.Option.{option_map}
use Rattle.farm_kinds.specs.declared.kinds.Kind.{Kind}
use Rattle.farm_kinds.specs.declared.outcomes.Verdict.{Verdict}
use Rattle.farm_kinds.specs.declared.outcomes.Answer.{Answer}
use Rattle.farm_kinds.specs.declared.outcomes.Answer.TheVariants.{Final, Pending}
use Rattle.farm_kinds.specs.declared.outcomes.Mode.{Mode}
use Rattle.farm_kinds.specs.declared.outcomes.Mode.TheVariants.{Lazy}
use Rattle.farm_kinds.specs.declared.outcomes.Task.{Task}
use Rattle.farm_kinds.specs.declared.events.Event.{Event}
use Rattle.farm_kinds.specs.declared.events.Event.TheVariants as event
use Rattle.farm_kinds.specs.declared.events.Reply.{Reply}
use Rattle.farm_kinds.specs.declared.events.Reply.TheVariants as reply
use Rattle.farm_kinds.specs.Rules.{remap_of}
use Rattle.farm_model.specs.Numbered.{item_of}
use Rattle.farm_model.specs.Rows.{Row, answer_of}
use Rattle.farm_model.specs.Judgings.{is_asked}
use Rattle.farm_model.specs.Open.{is_wanted}
use Rattle.farm_model.specs.Rejudgings.{members_in}
use Rattle.farm_model.specs.State.{State, SettingsValue, start}
use Rattle.farm_model.specs.Refusals.{refusal_of}
use Rattle.farm_model.specs.Farm.{farm_step}
use Rattle.farm_model.specs.Replay.{state_after, reply_to, given_by, counted_in, counted_row, times_counted, Truth, IsHonest, KnowsAll, one_thread_verdict}

-- the state after the events, from the empty farm on
abbrev pub reached : SettingsValue → List Event → State
reached settings es = state_after (start settings) es

-- the row of a judging
abbrev pub row_in : State → ℕ → Row
row_in s j = unwrap_or (option_map (λ judging. judging.row) (item_of s.judge.judgings j)) []

-- the mode of a judging
abbrev pub mode_in : State → ℕ → Mode
mode_in s j = unwrap_or (option_map (λ judging. judging.mode) (item_of s.judge.judgings j)) Lazy

abbrev pub IsJudging : State → ℕ → Type 0
IsJudging s j = IsSome (item_of s.judge.judgings j)

-- the row of a judging, by the results that were counted
abbrev pub replayed_row : SettingsValue → List Event → ℕ → Row
replayed_row settings es j =
    counted_row settings.rule (counted_in (start settings) es) j (length (row_in (reached settings es) j))

-- what `show` answers after the events
abbrev pub Shows : SettingsValue → List Event → ℕ → Answer → Type 0
Shows settings es j answer = reply_to (reached settings es) (event.Show j) ≡ reply.Shown answer

-- What is reported

-- The event asks what is reported of the judging: it is a `show`, or an `ask` that is accepted.
abbrev pub Reports : State → Event → ℕ → Type 0
Reports s e j = (e ≡ event.Show j) ⊎ ((who : List ℕ) × (e ≡ event.Ask who j) × (refusal_of s (event.Ask who j) ≡ None))

-- A judging is reported final exactly where the results that were counted say so: `answer_of` is over all
-- that the cells without a result could become, or where its mode is `Full` over the cells that are all filled.
abbrev pub FinalIsExact : SettingsValue → List Event → Event → (Reply → Type 0) → Type 0
FinalIsExact settings es e told = (j : ℕ) (v : Verdict) →
    Reports (reached settings es) e j → IsJudging (reached settings es) j →
    told (reply.Shown (Final v))
    ↔ (answer_of settings.rule (mode_in (reached settings es) j) (replayed_row settings es j) ≡ Final v)

-- The cell of this test is empty, and is still to be judged: with `Lazy` where it matters, as two ways to
-- fill the row that differ there alone have different verdicts, and with `Full` always.
abbrev pub IsWantedCell : SettingsValue → Mode → Row → ℕ → Type 0
IsWantedCell settings mode row test =
    (item_of row test ≡ Some None) × IsTrue (is_wanted settings.rule mode row test)

-- A judging is reported pending with the mode `Full` exactly while a test has no result that was counted, and with
-- `Lazy` exactly while an empty cell matters. One without cells is final.
abbrev pub PendingIsExact : SettingsValue → List Event → Event → (Reply → Type 0) → Type 0
PendingIsExact settings es e told = (j : ℕ) →
    Reports (reached settings es) e j → IsJudging (reached settings es) j →
    told (reply.Shown Pending)
    ↔ ((test : ℕ) × IsWantedCell settings (mode_in (reached settings es) j) (replayed_row settings es j) test)

-- what was final after some of the events is reported final still, with that verdict
abbrev pub FinalStays : SettingsValue → List Event → Event → (Reply → Type 0) → Type 0
FinalStays settings es e told = (before later : List Event) (j : ℕ) (v : Verdict) →
    Reports (reached settings es) e j → es ≡ before ++ later →
    Shows settings before j (Final v) → told (reply.Shown (Final v))

-- What is final is what running every test in rank order on one thread gives, where the results are honest.
-- With `Lazy` some of these tests may not have been judged.
abbrev pub EqualsOneThread : SettingsValue → List Event → Event → (Reply → Type 0) → Type 0
EqualsOneThread settings es e told = (truth : Truth) (j : ℕ) (v : Verdict) →
    let tests = length (row_in (reached settings es) j) in
    Reports (reached settings es) e j → IsHonest (start settings) es truth → KnowsAll truth j tests →
    told (reply.Shown (Final v)) → v ≡ one_thread_verdict settings.rule truth j tests

-- Results

-- the task that is told to be handed out has an empty cell that is still to be judged, in a judging that was asked for
pub record HandsOut (settings : SettingsValue) (s : State) (told : Reply → Type 0) : Type 0 where
  pub task : Task
  pub until : ℕ
  pub handed : told (reply.Handed task until)
  pub asked : is_asked s.judge.judgings task.judging ≡ true
  pub wanted : IsWantedCell settings (mode_in s task.judging) (row_in s task.judging) task.test

-- A task is handed out only of a judging that was asked for, while its cell is empty and still to be judged: with
-- `Lazy` it matters, in the state before the event.
abbrev pub HandsOutWanted : SettingsValue → List Event → (Reply → Type 0) → Type 0
HandsOutWanted settings es told = (task : Task) (until : ℕ) → told (reply.Handed task until) →
    HandsOut settings (reached settings es) told

-- each test that is told to be handed out has an empty cell that is still to be judged, in a judging that was asked for
pub record HandsOutBatch (settings : SettingsValue) (s : State) (told : Reply → Type 0) : Type 0 where
  pub judging : ℕ
  pub tests : List ℕ
  pub until : ℕ
  pub handed : told (reply.Batch judging tests until)
  pub asked : is_asked s.judge.judgings judging ≡ true
  pub wanted : All (λ test. IsWantedCell settings (mode_in s judging) (row_in s judging) test) tests

-- Tests are handed out in a batch only of a judging that was asked for, while their cells are empty and still to be judged.
abbrev pub FetchesWanted : SettingsValue → List Event → (Reply → Type 0) → Type 0
FetchesWanted settings es told = (judging : ℕ) (tests : List ℕ) (until : ℕ) → told (reply.Batch judging tests until) →
    HandsOutBatch settings (reached settings es) told

-- Only what is answered `counted` fills a cell. Claims, fetches, renewals, ticks, hosts' deaths and returns, and
-- results that are answered otherwise, leave the row of each judging that is there as it was.
abbrev pub OnlyCountedFills : SettingsValue → List Event → State → (Reply → Type 0) → Type 0
OnlyCountedFills settings es new told = ¬ told reply.Counted →
    (j : ℕ) → IsJudging (reached settings es) j → row_in new j ≡ row_in (reached settings es) j

-- the kind is in the cell of the task, and every other cell is as it was
pub record FillsCell (old new : State) (task : Task) (kind : Kind) : Type 0 where
  pub row : row_in new task.judging ≡ slice_set (row_in old task.judging) (task.test - 1) (Some kind)
  pub others : (j : ℕ) → j ≢ task.judging → IsJudging old j → row_in new j ≡ row_in old j

-- A result of this task and kind is the first of the task that is counted. The cell was empty, and its kind is
-- there now after remapping.
pub record CountsResult (settings : SettingsValue) (es : List Event) (e : Event) (new : State) : Type 0 where
  pub task : Task
  pub kind : Kind
  pub given : given_by e ≡ Some (task, kind)
  pub first : times_counted (counted_in (start settings) es) task ≡ 0
  pub empty : item_of (row_in (reached settings es) task.judging) task.test ≡ Some None
  pub fills : FillsCell (reached settings es) new task (remap_of settings.rule kind)

-- Only a result is answered `counted`, and at most one of each task.
abbrev pub CountedFills : SettingsValue → List Event → Event → State → (Reply → Type 0) → Type 0
CountedFills settings es e new told = told reply.Counted → CountsResult settings es e new

-- Rejudgings

-- the current judging of the submission of this number, where there is one
abbrev pub current_in : State → ℕ → Option ℕ
current_in s submission = option_map (λ x. x.current) (item_of s.submissions submission)

-- the submission is in the rejudging of this number
abbrev pub IsMember : State → ℕ → ℕ → Type 0
IsMember s n submission = Contains (map (λ member. member.submission) (members_in s.rejudgings n)) submission

-- the current judging of each of these submissions is as it was
abbrev pub KeepsCurrent : State → State → (ℕ → Type 0) → Type 0
KeepsCurrent old new these = (submission : ℕ) → these submission → current_in new submission ≡ current_in old submission

-- An apply that is accepted makes the new judging of every member the current one, at this one event, and
-- changes no other submission's.
abbrev pub AppliesToAll : SettingsValue → List Event → Event → State → (Reply → Type 0) → Type 0
AppliesToAll settings es e new told = (who : List ℕ) (n members : ℕ) → let old = reached settings es in
    e ≡ event.Apply who n → told (reply.Applied members) →
    All (λ member. current_in new member.submission ≡ Some member.new) (members_in old.rejudgings n)
    × KeepsCurrent old new (λ submission. ¬ IsMember old n submission)

-- A cancel changes no current judging, and so nothing of the board.
abbrev pub CancelChangesNone : SettingsValue → List Event → Event → State → Type 0
CancelChangesNone settings es e new = (who : List ℕ) (n : ℕ) → let old = reached settings es in
    e ≡ event.Cancel who n →
    ((submission : ℕ) → current_in new submission ≡ current_in old submission)
    × (reply_to new event.Board ≡ reply_to old event.Board)

-- the event is no apply that is accepted
abbrev pub AppliesNone : Event → (Reply → Type 0) → Type 0
AppliesNone e told = (who : List ℕ) (n members : ℕ) → e ≡ event.Apply who n → ¬ told (reply.Applied members)

-- No event but an apply that is accepted changes the current judging of a submission that is there.
abbrev pub OnlyApplyMoves : SettingsValue → List Event → Event → State → (Reply → Type 0) → Type 0
OnlyApplyMoves settings es e new told = let old = reached settings es in AppliesNone e told →
    KeepsCurrent old new (λ submission. IsSome (item_of old.submissions submission))

-- The laws

-- What a step keeps that comes after the events `es` from the empty farm, whatever they are, lazily or in full:
-- a judging is reported final exactly where its verdict is known from the results that were counted, that
-- verdict stays and is what one thread gives, each result counts once and fills its cell, nothing else fills
-- one, only tasks that are still to be judged are handed out, and a rejudging changes all its submissions'
-- current judgings when it is applied, and none when it is cancelled.
pub record ReplyKeepsPromise (settings : SettingsValue) (es : List Event) (e : Event)
    (new : State) (told : Reply → Type 0) : Type 0 where
  pub final_is_exact : FinalIsExact settings es e told
  pub pending_is_exact : PendingIsExact settings es e told
  pub final_stays : FinalStays settings es e told
  pub equals_one_thread : EqualsOneThread settings es e told
  pub hands_out_wanted : HandsOutWanted settings es told
  pub fetches_wanted : FetchesWanted settings es told
  pub only_counted_fills : OnlyCountedFills settings es new told
  pub counted_fills : CountedFills settings es e new told
  pub applies_to_all : AppliesToAll settings es e new told
  pub cancel_changes_none : CancelChangesNone settings es e new
  pub only_apply_moves : OnlyApplyMoves settings es e new told

-- what `ReplyKeepsPromise` says of a step to the state `new` with the reply r
abbrev pub StepKeepsPromise : SettingsValue → List Event → Event → State → Reply → Type 0
StepKeepsPromise settings es e new r = ReplyKeepsPromise settings es e new (λ x. r ≡ x)

-- at most one result of each task is counted
abbrev pub CountedOnce : SettingsValue → List Event → Type 0
CountedOnce settings es = (task : Task) → times_counted (counted_in (start settings) es) task ≤ 1

-- the row of a judging holds the counted result of each of its tasks, and is empty where none was counted
abbrev pub RowIsReplayed : SettingsValue → List Event → Type 0
RowIsReplayed settings es =
    (j : ℕ) → IsJudging (reached settings es) j → row_in (reached settings es) j ≡ replayed_row settings es j

-- what the farm's step keeps of each event
abbrev pub EachStepKeepsPromise : SettingsValue → List Event → Type 0
EachStepKeepsPromise settings es = (e : Event) →
    let done = farm_step (reached settings es) e in StepKeepsPromise settings es e done.0 done.1

-- Whatever the events: each step after them keeps its promise, each result was counted once, and rows hold what
-- was counted.
pub record KeepsPromise (settings : SettingsValue) (es : List Event) : Type 0 where
  pub each_step : EachStepKeepsPromise settings es
  pub counted_once : CountedOnce settings es
  pub row_is_replayed : RowIsReplayed settings es
