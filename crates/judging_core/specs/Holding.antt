-- How many leases hosts hold, and on what.
use Rattle.std.specs.Prelude.{◌≡◌, ℕ, ◌≤◌, ◌*◌, min, List, All, Some, None}
use Rattle.farm_model.specs.Limits.{max_held}
use Rattle.farm_model.specs.declared.records.Lease.{Lease}
use Rattle.farm_model.specs.Leases.{held_count}
use Rattle.farm_model.specs.Judgings.{Judging, cell_of}

-- the lease is one of these hosts'
abbrev pub IsOfHosts : ℕ → Lease → Type 0
IsOfHosts hosts lease = (1 ≤ lease.host) × (lease.host ≤ hosts)

-- each lease is one of these hosts', and none of them holds more than 64
pub record IsHeldWell (hosts : ℕ) (leases : List Lease) : Type 0 where
  pub hosts_known : All (IsOfHosts hosts) leases
  pub few_each : (host : ℕ) → held_count leases host ≤ max_held

-- how many leases can be held: 64 by each host, one on a test
abbrev pub most_held : ℕ → ℕ → ℕ
most_held hosts tests = min (max_held * hosts) tests

-- the lease is on an empty cell of a judging that is there
abbrev pub IsOnEmptyCell : List Judging → Lease → Type 0
IsOnEmptyCell judgings lease = cell_of judgings lease.task.judging lease.task.test ≡ Some None

abbrev pub AreOnEmptyCells : List Judging → List Lease → Type 0
AreOnEmptyCells judgings leases = All (IsOnEmptyCell judgings) leases
