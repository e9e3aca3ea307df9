-- What becomes of the leases that are held.
use Rattle.std.specs.Prelude.{List, [], ◌∷◌, ◌++◌}
use Rattle.farm_model.specs.declared.records.Lease.{Lease}
use Rattle.farm_model.specs.Leases.{without_task, renewed}
use Rattle.lease_book.specs.declared.change.Change.{Change}
use Rattle.lease_book.specs.declared.change.Change.TheVariants as change

-- the leases after a change, in the order in which they were granted
abbrev pub leases_after : List Lease → Change → List Lease
leases_after leases (change.Granted lease) = leases ++ lease ∷ []
leases_after leases (change.Ended task) = without_task leases task
leases_after leases (change.Renewed task until) = renewed leases task until
