use Rattle.lease_book.proofs.Walks.{left_none, left_other_host, left_other_judging, next_is}
use Rattle.lease_book.proofs.book.LeaseBook.next_held.Goals as goal

pub returns-in_default-clause-none : goal.returns-in_default-clause-none
returns-in_default-clause-none c = left_none c.args.host c.args.judging c.args.last c.args.self.now.leases (rw c.in_default.is at c.first_after.ensures)

pub returns-then-lease-host-clause-none : goal.returns-then-lease-host-clause-none
returns-then-lease-host-clause-none c = left_other_host c.args.host c.args.judging c.args.last c.args.self.now.leases c.in-Some.lease (rw c.in-Some.is at c.first_after.ensures) c.if-lease-host.true

pub returns-then-task-judging-clause-none : goal.returns-then-task-judging-clause-none
returns-then-task-judging-clause-none c = left_other_judging c.args.host c.args.judging c.args.last c.args.self.now.leases c.in-Some.lease (rw c.in-Some.is at c.first_after.ensures) c.if-lease-host.false c.if-task-judging.true

pub returns-clause-next : goal.returns-clause-next
returns-clause-next c = next_is c.args.host c.args.judging c.args.last c.args.self.now.leases c.in-Some.lease (rw c.in-Some.is at c.first_after.ensures) c.if-lease-host.false c.if-task-judging.false
