use Rattle.std.proofs.Common.{◌≡◌, length}
use Rattle.lease_book.specs.Behind.{without_behind}
use Rattle.lease_book.specs.Book.{room}
use Rattle.lease_book.proofs.book.LeaseBook.end_behind.Given as goal

abbrev pub invariant-loop-task : goal.invariant-loop-task
invariant-loop-task l = record { left : without_behind l.self.leases l.judging l.test ≡ without_behind l.fn.self.leases l.judging l.test; room : room l.self ≡ room l.fn.self }

abbrev pub decreases-loop-task : goal.decreases-loop-task
decreases-loop-task l = length l.self.leases
