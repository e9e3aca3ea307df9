-- Where leases stand in an order.
use Rattle.std.specs.Prelude.{ℕ, List, [], ◌∷◌, ◌++◌, Bool, true, ◌&&◌, ◌||◌, ◌==◌, not, nat_lt, ◌≡◌, count_by}
use Rattle.std.specs.List.{AllByRecursion}
use Rattle.farm_model.specs.declared.records.Lease.{Lease}
use Rattle.farm_model.specs.Leases.{same_task, is_task_before}
use Rattle.lease_tree.specs.declared.keys.Key.{Key}
use Rattle.lease_tree.specs.declared.keys.Order.{Order}
use Rattle.lease_tree.specs.declared.keys.Order.TheVariants as order

-- the number that decides first
abbrev pub group_of : Order → Lease → ℕ
group_of order.Judging lease = lease.task.judging
group_of order.Host lease = lease.host
group_of order.End lease = lease.until

abbrev pub key_of : Order → Lease → Key
key_of by lease = record { group = group_of by lease; task = lease.task }

-- by group and then by task
abbrev pub is_key_before : Key → Key → Bool
is_key_before a b = nat_lt a.group b.group || (a.group == b.group && is_task_before a.task b.task)

-- one lease comes before the other
abbrev pub is_before : Order → Lease → Lease → Bool
is_before by a b = is_key_before (key_of by a) (key_of by b)

abbrev pub has_group : Order → ℕ → Lease → Bool
has_group by group lease = group_of by lease == group

-- how many leases are of a lesser group
abbrev pub count_below : Order → ℕ → List Lease → ℕ
count_below by group leases = count_by (λ lease. nat_lt (group_of by lease) group) leases

abbrev pub has_key : Order → Key → Lease → Bool
has_key by key lease = group_of by lease == key.group && same_task lease.task key.task

-- the lease stands at the key or behind it
abbrev pub is_from : Order → Key → Lease → Bool
is_from by key lease = not (is_key_before (key_of by lease) key)

-- the lease stands behind the key
abbrev pub is_behind : Order → Key → Lease → Bool
is_behind by key lease = is_key_before key (key_of by lease)

-- of the leases that pass the test none comes before this one
abbrev pub NoneEarlier : Order → (Lease → Bool) → List Lease → Lease → Type 0
NoneEarlier by test leases lease = count_by (λ other. test other && is_before by other lease) leases ≡ 0

-- no lease comes before this one
abbrev pub NoneBefore : Order → List Lease → Lease → Type 0
NoneBefore by leases lease = count_by (λ other. is_before by other lease) leases ≡ 0

-- each lease comes before those that follow it
abbrev pub Rising : Order → List Lease → Type 0
Rising by [] = Unit {0}
Rising by (x ∷ xs) = AllByRecursion (λ y. is_before by x y ≡ true) xs × Rising by xs

-- the new leases have one more
pub record IsAdded (old new : List Lease) (lease : Lease) : Type 0 where
  pub before : List Lease
  pub after : List Lease
  pub old_is : old ≡ before ++ after
  pub new_is : new ≡ before ++ lease ∷ after

-- the old leases have one more
pub record IsTaken (old new : List Lease) (lease : Lease) : Type 0 where
  pub before : List Lease
  pub after : List Lease
  pub old_is : old ≡ before ++ lease ∷ after
  pub new_is : new ≡ before ++ after
