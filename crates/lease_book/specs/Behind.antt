-- The leases on the tests of a judging behind one of them.
use Rattle.std.specs.Prelude.{ℕ, List, Bool, not, filter, count_by, nat_lt, ◌&&◌, ◌==◌}
use Rattle.farm_model.specs.declared.records.Lease.{Lease}

-- the lease is on a task of the judging, of a greater rank than this test
abbrev pub is_behind : ℕ → ℕ → Lease → Bool
is_behind judging test lease = lease.task.judging == judging && nat_lt test lease.task.test

-- the leases without those
abbrev pub without_behind : List Lease → ℕ → ℕ → List Lease
without_behind leases judging test = filter (λ lease. not (is_behind judging test lease)) leases

-- how many there are
abbrev pub behind_count : List Lease → ℕ → ℕ → ℕ
behind_count leases judging test = count_by (is_behind judging test) leases
