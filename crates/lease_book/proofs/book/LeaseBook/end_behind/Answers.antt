use Rattle.std.proofs.Common.{◌≡◌, arith}
use Rattle.lease_book.specs.Behind.{is_behind, behind_count}
use Rattle.lease_book.proofs.Changed.{IsEmptied, emptied}
use Rattle.lease_book.proofs.book.LeaseBook.end_behind.Goals as goal

ended : (c : goal.After-len) → IsEmptied (is_behind c.args.judging c.args.test) c.args.self.now c.loop-task.self
ended c =
    let none : behind_count c.loop-task.self.leases c.args.judging c.args.test ≡ 0 = rw c.in_default.is at c.task_behind.ensures.none in
    emptied (is_behind c.args.judging c.args.test) c.args.self.now c.loop-task.self none c.loop-task.invariant.left c.loop-task.invariant.room

pub overflow_sub-result : goal.overflow_sub-result
overflow_sub-result c = let e = ended c in omega (arith, e.count, c.len-held.ensures.count, c.len.ensures.count)

pub returns-clause-count : goal.returns-clause-count
returns-clause-count c = let e = ended c in omega (arith, e.count, c.len-held.ensures.count, c.len.ensures.count)

pub returns-clause-leases : goal.returns-clause-leases
returns-clause-leases c = (ended c).leases

pub returns-clause-spare : goal.returns-clause-spare
returns-clause-spare c = let e = ended c in omega (arith, e.count, e.spare, c.len-held.ensures.count, c.len.ensures.count)
