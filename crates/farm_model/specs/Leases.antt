-- Leases: each a task that a host holds until a moment. They are a list in the order in which they were granted.
use Rattle.std.specs.Prelude.{ℕ, List, [], ◌∷◌, ◌++◌, filter, find, count_by, map, Option, Some, None, Bool, false, not, ◌&&◌, ◌||◌, ◌==◌, nat_le, nat_lt, if◌then◌else◌}
use Rattle.std.specs.Option.{option_map_or}
use Rattle.std.specs.List.{reduce}
use Rattle.farm_kinds.specs.declared.outcomes.Task.{Task}
use Rattle.farm_model.specs.declared.records.Lease.{Lease}

abbrev pub same_task : Task → Task → Bool
same_task a b = a.judging == b.judging && a.test == b.test

-- the lease that is held on the task
abbrev pub lease_on : List Lease → Task → Option Lease
lease_on leases task = find (λ lease. same_task lease.task task) leases

abbrev pub holds : ℕ → Lease → Bool
holds host lease = lease.host == host

-- the host holds the lease on the task
abbrev pub is_held_by : List Lease → ℕ → Task → Bool
is_held_by leases host task = option_map_or (holds host) (lease_on leases task) false

-- how many leases the host holds
abbrev pub held_count : List Lease → ℕ → ℕ
held_count leases host = count_by (holds host) leases

abbrev pub with_lease : List Lease → ℕ → Task → ℕ → List Lease
with_lease leases host task until = leases ++ (record { host = host; task = task; until = until }) ∷ []

-- the leases without that on the task
abbrev pub without_task : List Lease → Task → List Lease
without_task leases task = filter (λ lease. not (same_task lease.task task)) leases

-- the leases without those of the host
abbrev pub without_host : List Lease → ℕ → List Lease
without_host leases host = filter (λ lease. not (holds host lease)) leases

-- the leases without those on the judging's tasks
abbrev pub without_judging : List Lease → ℕ → List Lease
without_judging leases judging = filter (λ lease. not (lease.task.judging == judging)) leases

-- how many leases are held on the judging's tasks
abbrev pub judging_count : List Lease → ℕ → ℕ
judging_count leases judging = count_by (λ lease. lease.task.judging == judging) leases

-- the lease has another end, where it passes the test
abbrev pub renew_if : (Lease → Bool) → ℕ → Lease → Lease
renew_if test until lease = if test lease then record lease { until = until } else lease

-- the lease on the task, where there is one, has another end
abbrev pub renewed : List Lease → Task → ℕ → List Lease
renewed leases task until = map (renew_if (λ lease. same_task lease.task task) until) leases

-- the host holds the lease, and it is on a task of the judging
abbrev pub holds_of : ℕ → ℕ → Lease → Bool
holds_of host judging lease = holds host lease && lease.task.judging == judging

-- the leases that the host holds on the judging's tasks have another end
abbrev pub renewed_of : List Lease → ℕ → ℕ → ℕ → List Lease
renewed_of leases host judging until = map (renew_if (holds_of host judging) until) leases

abbrev pub has_ended : ℕ → Lease → Bool
has_ended now lease = nat_le lease.until now

-- those that end at this moment or before it, and the others
abbrev pub ended_at : List Lease → ℕ → List Lease
ended_at leases now = filter (has_ended now) leases

abbrev pub left_after : List Lease → ℕ → List Lease
left_after leases now = filter (λ lease. not (has_ended now lease)) leases

abbrev pub is_task_before : Task → Task → Bool
is_task_before a b = nat_lt a.judging b.judging || (a.judging == b.judging && nat_lt a.test b.test)

-- the lease with the earlier end, and on a tie the one on the lesser task
abbrev pub earlier_of : Lease → Lease → Lease
earlier_of a b = if nat_lt b.until a.until || (a.until == b.until && is_task_before b.task a.task) then b else a

-- the lease that is due first
abbrev pub first_due : List Lease → ℕ → Option Lease
first_due leases now = reduce earlier_of (ended_at leases now)
