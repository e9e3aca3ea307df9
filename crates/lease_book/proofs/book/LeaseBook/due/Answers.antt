use Rattle.std.proofs.Common.{arith}
use Rattle.std.proofs.lemmas.List.Sums.{length-filter}
use Rattle.farm_model.specs.Leases.{has_ended, without_task}
use Rattle.lease_book.specs.Changes.{EndsOne}
use Rattle.lease_book.proofs.book.LeaseBook.due.Goals as goal

pub returns-clause-one : goal.returns-clause-one
returns-clause-one c =
    let old = c.args.self.now.leases in
    let new = c.end.new.self.leases in
    let one : EndsOne (has_ended c.args.now) old c.in-Some.lease.task = rw c.in-Some.is at c.first_due.ensures.one in
    rw c.end.ensures.leases (record {
      count = omega (arith, one.count, length-filter (has_ended c.args.now) old, length-filter (has_ended c.args.now) (without_task old c.in-Some.lease.task));
      left = one.left;
    })
