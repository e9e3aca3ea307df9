use Rattle.std.proofs.Common.{◌≡◌, length}
use Rattle.farm_model.specs.Leases.{without_judging}
use Rattle.lease_book.specs.Book.{room}
use Rattle.lease_book.proofs.book.LeaseBook.end_judging.Given as goal

abbrev pub invariant-loop-task : goal.invariant-loop-task
invariant-loop-task l = record { left : without_judging l.self.leases l.judging ≡ without_judging l.fn.self.leases l.judging; room : room l.self ≡ room l.fn.self }

abbrev pub decreases-loop-task : goal.decreases-loop-task
decreases-loop-task l = length l.self.leases
