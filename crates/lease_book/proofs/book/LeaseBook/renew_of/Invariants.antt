use Rattle.std.proofs.Common.{◌≡◌, count_by}
use Rattle.farm_model.specs.Leases.{renewed_of}
use Rattle.lease_book.specs.Book.{room}
use Rattle.lease_book.proofs.Walks.{is_stale, tests_left}
use Rattle.lease_book.proofs.book.LeaseBook.renew_of.Given as goal

abbrev pub invariant-loop-task : goal.invariant-loop-task
invariant-loop-task l = record {
  all : renewed_of l.self.leases l.host l.judging l.until ≡ renewed_of l.fn.self.leases l.host l.judging l.until;
  passed : count_by (is_stale l.host l.judging l.until l.last) l.self.leases ≡ 0;
  spare : l.self.spare ≡ l.fn.self.spare;
  room : room l.self ≡ room l.fn.self;
}

abbrev pub decreases-loop-task : goal.decreases-loop-task
decreases-loop-task l = tests_left l.last
