use Rattle.std.proofs.Common.{◌≡◌, length}
use Rattle.farm_model.specs.Leases.{without_host}
use Rattle.lease_book.specs.Book.{room}
use Rattle.lease_book.proofs.book.LeaseBook.end_host.Given as goal

abbrev pub invariant-loop-task : goal.invariant-loop-task
invariant-loop-task l = record { left : without_host l.self.leases l.host ≡ without_host l.fn.self.leases l.host; room : room l.self ≡ room l.fn.self }

abbrev pub decreases-loop-task : goal.decreases-loop-task
decreases-loop-task l = length l.self.leases
