use Rattle.std.proofs.Common.{◌≡◌, arith, ◌==◌}
use Rattle.farm_model.specs.declared.records.Lease.{Lease}
use Rattle.farm_model.specs.Leases.{judging_count}
use Rattle.lease_book.proofs.Changed.{IsEmptied, emptied}
use Rattle.lease_book.proofs.book.LeaseBook.end_judging.Goals as goal

ended : (c : goal.After-len) → IsEmptied (λ (x : Lease). x.task.judging == c.args.judging) c.args.self.now c.loop-task.self
ended c =
    let none : judging_count c.loop-task.self.leases c.args.judging ≡ 0 = rw c.in_default.is at c.task_of_judging.ensures.none in
    emptied (λ (x : Lease). x.task.judging == c.args.judging) c.args.self.now c.loop-task.self none c.loop-task.invariant.left c.loop-task.invariant.room

pub overflow_sub-result : goal.overflow_sub-result
overflow_sub-result c = let e = ended c in omega (arith, e.count, c.len-held.ensures.count, c.len.ensures.count)

pub returns-clause-count : goal.returns-clause-count
returns-clause-count c = let e = ended c in omega (arith, e.count, c.len-held.ensures.count, c.len.ensures.count)

pub returns-clause-leases : goal.returns-clause-leases
returns-clause-leases c = (ended c).leases

pub returns-clause-spare : goal.returns-clause-spare
returns-clause-spare c = let e = ended c in omega (arith, e.count, e.spare, c.len-held.ensures.count, c.len.ensures.count)
