use Rattle.std.specs.Prelude.{ℕ, List, []}
use Rattle.farm_model.specs.declared.records.Lease.{Lease}
use Rattle.lease_tree.specs.declared.keys.Order.{Order}

pub record OrderedLeases : Type 0 where
  -- by which number of theirs they are in order
  pub order : Order
  -- the leases, in that order
  pub leases : List Lease
  -- how many more can be put in
  pub spare : ℕ

-- no leases, and no room for any
abbrev pub no_leases : Order → OrderedLeases
no_leases by = record { order = by; leases = []; spare = 0 }
