-- What ending one lease does to a count of leases.
use Rattle.std.specs.Prelude.{◌≡◌, ◌+◌, List, Bool, true, not, filter, count_by, is_some}
use Rattle.farm_kinds.specs.declared.outcomes.Task.{Task}
use Rattle.farm_model.specs.declared.records.Lease.{Lease}
use Rattle.farm_model.specs.Leases.{lease_on, without_task}

-- the lease on the task passes the test: without it one less does, and the others stay
pub record EndsOne (p : Lease → Bool) (leases : List Lease) (task : Task) : Type 0 where
  pub held : is_some (lease_on leases task) ≡ true
  pub count : count_by p leases ≡ count_by p (without_task leases task) + 1
  pub left : filter (λ lease. not (p lease)) (without_task leases task) ≡ filter (λ lease. not (p lease)) leases
