-- The leases that a host holds on the tasks of one judging, one after the other.
use Rattle.std.specs.Prelude.{◌≡◌, ℕ, List, Option, Some, None, Bool, true, ◌&&◌, nat_lt, count_by}
use Rattle.farm_kinds.specs.declared.outcomes.Task.{Task}
use Rattle.farm_model.specs.declared.records.Lease.{Lease}
use Rattle.farm_model.specs.Leases.{holds_of}
use Rattle.lease_tree.specs.declared.keys.Key.{Key}
use Rattle.lease_tree.specs.declared.keys.Order.{Order}
use Rattle.lease_tree.specs.Keys.{is_from, is_behind, NoneEarlier}
use Rattle.lease_book.specs.Changes.{EndsOne}

-- in this order it is the first lease that passes the test
pub record IsFirstOf (by : Order) (test : Lease → Bool) (leases : List Lease) (lease : Lease) : Type 0 where
  pub passes : test lease ≡ true
  pub least : NoneEarlier by test leases lease
  -- and it can be ended
  pub ends : (other : Lease → Bool) → other lease ≡ true → EndsOne other leases lease.task

-- the first lease that passes the test, where one does
abbrev pub FirstOf : Order → (Lease → Bool) → List Lease → Option Lease → Type 0
FirstOf by test leases None = count_by test leases ≡ 0
FirstOf by test leases (Some lease) = IsFirstOf by test leases lease

-- the test has a greater rank than the last one, where there is one
abbrev pub is_after : Option ℕ → ℕ → Bool
is_after None test = true
is_after (Some last) test = nat_lt last test

-- the host holds the lease, and it is on a task of the judging behind the last one
abbrev pub is_left : ℕ → ℕ → Option ℕ → Lease → Bool
is_left host judging last lease = holds_of host judging lease && is_after last lease.task.test

abbrev pub key_at : ℕ → ℕ → ℕ → Key
key_at host judging test = record { group = host; task = record { judging = judging; test = test } }

-- in the order of hosts the lease stands behind that on the last test, or no earlier than the host's on the judging
abbrev pub stands_after : ℕ → ℕ → Option ℕ → Order → Lease → Bool
stands_after host judging None by lease = is_from by (key_at host judging 0) lease
stands_after host judging (Some last) by lease = is_behind by (key_at host judging last) lease

-- the task is the judging's next behind the last one that the host holds
pub record IsNext (host judging : ℕ) (last : Option ℕ) (leases : List Lease) (task : Task) : Type 0 where
  pub judging_is : task.judging ≡ judging
  pub after : is_after last task.test ≡ true
  pub none_before : count_by (λ lease. is_left host judging last lease && nat_lt lease.task.test task.test) leases ≡ 0
  pub ends : EndsOne (holds_of host judging) leases task
