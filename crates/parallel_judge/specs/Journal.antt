-- The journal of a judging: the calls that took effect, each with its reply.
use Rattle.std.specs.Prelude.{◌≡◌, ◌≢◌, ℕ, ◌+◌, true, List, [], ◌∷◌, ◌++◌, map, Option, Some, None}
use Rattle.farm_kinds.specs.declared.outcomes.Task.{Task}
use Rattle.farm_kinds.specs.declared.outcomes.Answer.TheVariants.{Final}
use Rattle.farm_kinds.specs.declared.events.Event.{Event}
use Rattle.farm_kinds.specs.declared.events.Event.TheVariants as event
use Rattle.farm_kinds.specs.declared.events.Reply.TheVariants as reply
use Rattle.farm_model.specs.Numbered.{item_of}
use Rattle.farm_model.specs.Judgings.{task_of}
use Rattle.farm_model.specs.Judge.{first_open}
use Rattle.farm_model.specs.State.{State, SettingsValue, start}
use Rattle.farm_model.specs.Farm.{farm_step}
use Rattle.farm_model.specs.Replay.{reply_to}
use Rattle.farm_laws.specs.Laws.{reached}
use Rattle.case_run.specs.Cases.{TestCase}
use Rattle.contest_folder.specs.declared.roster.Submission.{Submission}
use Rattle.contest_folder.specs.RosterValue.{RosterValue}
use Rattle.contest_folder.specs.JudgingCases.{case_at}
use Rattle.farm_board.specs.Histories.{IsLegal, opening_board, effective_calls}
use Rattle.farm_board.specs.declared.entries.Call.{Call}
use Rattle.farm_board.specs.declared.entries.HistoryEntry.{HistoryEntry}
use Rattle.parallel_judge.specs.Working.{truth_of}
use Rattle.parallel_judge.specs.Table.{verdict_for}
use Rattle.parallel_judge.specs.UnderWay.{IsOfHost}

abbrev pub events_in : List Call → List Event
events_in calls = map (λ call. call.event) calls

-- each reply is the farm's, in the state after the calls before it
abbrev pub AreAnswered : State → List Call → Type 0
AreAnswered s [] = Unit {0}
AreAnswered s (call ∷ calls) = (call.reply ≡ reply_to s call.event) × AreAnswered (farm_step s call.event).0 calls

-- the calls are those of pass 0
abbrev pub AreCallers : List Call → Type 0
AreCallers [] = Unit {0}
AreCallers (call ∷ calls) = (call.number ≡ 0) × AreCallers calls

-- An event by which a contest is judged. A result is the value of its task's case
abbrev pub IsJudgingEvent : (Task → Option TestCase) → Event → Type 0
IsJudgingEvent case_at (event.Problem who name tests) = Unit {0}
IsJudgingEvent case_at (event.Host name) = Unit {0}
IsJudgingEvent case_at (event.Submit problem class broken) = Unit {0}
IsJudgingEvent case_at (event.Claim host) = Unit {0}
IsJudgingEvent case_at (event.Result host j test kind) = truth_of case_at (task_of j test) ≡ Some kind
IsJudgingEvent case_at (event.Ask who j) = Unit {0}
IsJudgingEvent case_at (event.Down host) = Unit {0}
IsJudgingEvent case_at (event.Show j) = Unit {0}
IsJudgingEvent case_at e = ⊥

abbrev pub AreJudging : (Task → Option TestCase) → List Call → Type 0
AreJudging case_at [] = Unit {0}
AreJudging case_at (call ∷ calls) = IsJudgingEvent case_at call.event × AreJudging case_at calls

-- what pass 1 calls is a claim or a result of host h1, and so on; pass 0 is the caller's
abbrev pub AreNamed : List Call → Type 0
AreNamed [] = Unit {0}
AreNamed (call ∷ calls) = ((call.number ≢ 0) → IsOfHost call.number call.event) × AreNamed calls

-- The calls of one legal history from the empty farm, in which each of so many hosts has a pass, and then what the
-- caller entered. The farm stands after all of them
pub record IsKept (settings : SettingsValue) (case_at : Task → Option TestCase) (hosts : ℕ) (s : State)
    (calls : List Call) : Type 0 where
  pub history : List HistoryEntry
  pub later : List Call
  pub legal : IsLegal (opening_board (start settings) (hosts + 1) true) history
  pub whole : calls ≡ effective_calls history ++ later
  pub callers : AreCallers later
  pub named : AreNamed calls
  pub answered : AreAnswered (start settings) calls
  pub judging : AreJudging case_at calls
  pub stands : s ≡ reached settings (events_in calls)

-- the same of the journal that goes with a farm, where one is kept
abbrev pub KeepsJournal : SettingsValue → (Task → Option TestCase) → ℕ → State → Option (List Call) → Type 0
KeepsJournal settings case_at hosts s journal =
    (calls : List Call) → journal ≡ Some calls → IsKept settings case_at hosts s calls

-- The journal of a contest that was judged: in the end no task is open, and each submission has its verdict
pub record IsJournal (roster : RosterValue) (hosts : ℕ) (calls : List Call) : Type 0 where
  pub end : State
  pub kept : IsKept roster.settings (case_at roster) hosts end calls
  pub none_open : first_open end.judge ≡ None
  pub verdicts : (n : ℕ) (submission : Submission) → item_of roster.submissions n ≡ Some submission
      → reply_to end (event.Show n) ≡ reply.Shown (Final (verdict_for roster n submission))
