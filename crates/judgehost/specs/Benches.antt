-- What is known of a bench.
use Rattle.std.specs.Prelude.{◌≡◌, ℕ, Option, Some, None, Result, Ok, Err}
use Rattle.farm_kinds.specs.declared.events.Reply.{Reply}
use Rattle.farm_kinds.specs.declared.outcomes.Task.{Task}
use Rattle.case_run.specs.Cases.{TestCase}
use Rattle.judgehost.specs.declared.bench.BenchFault.{BenchFault}
use Rattle.judgehost.specs.declared.bench.Claimed.{Claimed}
use Rattle.judgehost.specs.declared.bench.Claimed.TheVariants as claimed

-- what a call of a bench answered that gave its host nothing to go on with
pub data Heard : Type 0 where
  Nothing : Heard
  Refused : (fault : BenchFault) → Heard

abbrev pub heard_at_claim : Claimed → Option Heard
heard_at_claim (claimed.Task task) = None
heard_at_claim claimed.Nothing = Some Nothing
heard_at_claim (claimed.Refused fault) = Some (Refused fault)

abbrev pub heard_at_post : Result Reply BenchFault → Option Heard
heard_at_post (Ok reply) = None
heard_at_post (Err fault) = Some (Refused fault)

-- how many tasks an answer to a claim hands out
abbrev pub tasks_in : Claimed → ℕ
tasks_in (claimed.Task task) = 1
tasks_in claimed.Nothing = 0
tasks_in (claimed.Refused fault) = 0

-- the task that was handed out is the pending one, and none is where none was
abbrev pub IsPending : Claimed → Option (Task × TestCase) → Type 0
IsPending (claimed.Task task) pending = (c : TestCase) × (pending ≡ Some (task, c))
IsPending claimed.Nothing pending = pending ≡ None
IsPending (claimed.Refused fault) pending = pending ≡ None
