-- Benches over a board.
use Rattle.std.specs.Prelude.{◌≡◌, ℕ, Bool, false, ◌&&◌, List, Option, Some, None, Result, Ok, Err}
use Rattle.std.specs.Option.{option_map}
use Rattle.std.specs.Str.{bytes_eq}
use Rattle.farm_kinds.specs.declared.outcomes.Task.{Task}
use Rattle.farm_kinds.specs.declared.events.Event.{Event}
use Rattle.farm_kinds.specs.declared.events.Event.TheVariants as event
use Rattle.farm_kinds.specs.declared.events.Reply.{Reply}
use Rattle.farm_kinds.specs.declared.events.Reply.TheVariants as replies
use Rattle.farm_kinds.specs.declared.kinds.Kind.{Kind}
use Rattle.farm_model.specs.Judgings.{task_of}
use Rattle.case_run.specs.Cases.{TestCase}
use Rattle.judgehost.specs.declared.bench.BenchFault.{BenchFault}
use Rattle.judgehost.specs.declared.bench.BenchFault.TheVariants as fault
use Rattle.judgehost.specs.declared.bench.Claimed.{Claimed}
use Rattle.judgehost.specs.declared.bench.Claimed.TheVariants as claimed
use Rattle.farm_board.specs.Passes.{BoardId, PassValue, Calls}
use Rattle.farm_board.specs.Trusts.{Admits}
use Rattle.farm_board.specs.declared.entries.HistoryEntry.{HistoryEntry}
use Rattle.farm_board.specs.declared.entries.HistoryEntry.TheVariants as entry

-- a claim of the host, or a result of it that is admitted
abbrev pub is_host_event : Admits → List ℕ → Event → Bool
is_host_event admits host (event.Claim name) = bytes_eq name host
is_host_event admits host (event.Result name j test kind) = bytes_eq name host && admits (task_of j test) kind
is_host_event admits host e = false

-- the entry is a call with such an event
abbrev pub is_host_entry : Admits → List ℕ → HistoryEntry → Bool
is_host_entry admits host (entry.Call call) = is_host_event admits host call.event
is_host_entry admits host (entry.Split number new) = false
is_host_entry admits host (entry.Join number old) = false

-- the pending task with its case
abbrev pub pending_case : (Task → Option TestCase) → Option Task → Option (Task × TestCase)
pending_case case_at None = None
pending_case case_at (Some task) = option_map (λ c. (task, c)) (case_at task)

-- what no call of a bench changes: its host, its board with the cases that it trusts, and of its pass the number and
-- how many it may split off
pub record BenchIdentity : Type 0 where
  pub host : List ℕ
  pub board : BoardId
  pub case_at : Task → Option TestCase
  pub number : ℕ
  pub spare : ℕ

-- how often the link to a board in this process has failed
abbrev pub link_faults : ℕ
link_faults = 0

-- What the calls of a bench answer

-- a task that the farm hands out
abbrev pub handed_out : Task → Option TestCase → Claimed
handed_out task None = claimed.Refused (fault.NoCase task)
handed_out task (Some c) = claimed.Task task

-- what a bench makes of the farm's reply to a claim
abbrev pub claimed_by : (Task → Option TestCase) → Reply → Claimed
claimed_by case_at (replies.Handed task until) = handed_out task (case_at task)
claimed_by case_at replies.Nothing = claimed.Nothing
claimed_by case_at (replies.Holding limit) = claimed.Refused fault.Holding
claimed_by case_at replies.NoMemory = claimed.Refused fault.NoMemory
claimed_by case_at reply = claimed.Refused fault.NoHost

-- what a bench makes of the farm's reply to a result
abbrev pub posted_by : Reply → Result Reply BenchFault
posted_by (replies.NoHost name) = Err fault.NoHost
posted_by replies.NoMemory = Err fault.NoMemory
posted_by reply = Ok reply

-- the pass makes a call, a claim of the host, whose reply is answered
pub record ClaimsOnce (case_at : Task → Option TestCase) (host : List ℕ)
    (old new : PassValue) (answer : Claimed) : Type 0 where
  pub reply : Reply
  pub call : Calls old new (event.Claim host) reply
  pub answered : answer ≡ claimed_by case_at reply

-- the pass makes a call, a result of the host, whose reply is answered
pub record PostsOnce (host : List ℕ) (task : Task) (kind : Kind) (old new : PassValue)
    (answer : Result Reply BenchFault) : Type 0 where
  pub reply : Reply
  pub call : Calls old new (event.Result host task.judging task.test kind) reply
  pub answered : answer ≡ posted_by reply
