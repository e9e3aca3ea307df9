-- A remote bench as a bench.
use Rattle.std.specs.Prelude.{◌≡◌, ◌≢◌, ◌≤◌, ℕ, Option, None, Some}
use Rattle.farm_kinds.specs.declared.outcomes.Task.{Task}
use Rattle.case_run.specs.Cases.{TestCase}
use Rattle.judgehost.specs.declared.bench.BenchFault.TheVariants as fault
use Rattle.judgehost.specs.declared.host.HostEnd.{HostEnd}
use Rattle.judgehost.specs.declared.host.HostEnd.TheVariants as host
use Rattle.judgehost.specs.Benches.{Heard, Nothing, Refused}
use Rattle.wire_job.specs.JobValue.{JobValue}
use Rattle.remote_host.specs.declared.asks.Kept.{Kept}
use Rattle.remote_host.specs.declared.asks.Wrong.{Wrong}
use Rattle.remote_host.specs.Talk.{kept_of}

-- how many jobs are pending
abbrev pub is_pending : Option JobValue → ℕ
is_pending None = 0
is_pending (Some j) = 1

abbrev pub pending_job : Option JobValue → Option (Task × TestCase)
pending_job None = None
pending_job (Some j) = Some (j.task, j.case)

-- what is kept of the job that was run
abbrev pub kept_behind : Option JobValue → Option Kept
kept_behind None = None
kept_behind (Some j) = kept_of j.task j.case

-- no claim was made and nothing heard, and nothing is kept
pub record IsFresh (b c t p : ℕ) (k : Option Kept) (j : Option JobValue) (h : Option Heard) : Type 0 where
  pub before : b ≡ 0
  pub claims : c ≡ 0
  pub tasks : t ≡ 0
  pub posts : p ≡ 0
  pub kept : k ≡ None
  pub job : j ≡ None
  pub heard : h ≡ None

-- How often the connection has failed since it came, by what was heard: not at all, unless the link failed, and then
-- for a wrong answer or because the connection did. Where the link failed no task is pending.
pub record HasFailed (heard : Option Heard) (pending : Option (Task × TestCase)) (w : Option Wrong) (came now : ℕ)
    : Type 0 where
  pub failed : heard ≡ Some (Refused fault.Link) → w ≡ None → 1 ≤ now
  pub kept : heard ≢ Some (Refused fault.Link) → now ≡ came
  pub bare : heard ≡ Some (Refused fault.Link) → pending ≡ None

-- how a host ended that heard this last: one that was refused ended so
abbrev pub died_heard : Option Heard → HostEnd → HostEnd
died_heard None e = e
died_heard (Some Nothing) e = e
died_heard (Some (Refused f)) e = host.Bench f

abbrev pub end_heard : Option Heard → HostEnd → HostEnd
end_heard heard host.Idle = host.Idle
end_heard heard (host.Died p turn) = died_heard heard (host.Died p turn)
end_heard heard host.Fuel = host.Fuel
end_heard heard (host.Bench f) = host.Bench f
end_heard heard host.NoMemory = host.NoMemory
