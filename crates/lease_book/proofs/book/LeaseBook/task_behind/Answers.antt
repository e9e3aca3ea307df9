use Rattle.std.proofs.Common.{◌≡◌, subst, Some, None}
use Rattle.lease_book.specs.Book.{Book}
use Rattle.lease_book.specs.Behind.{is_behind, behind_count}
use Rattle.lease_book.specs.Changes.{EndsOne}
use Rattle.lease_book.proofs.Walks.{behind_first, behind_none, behind_other, behind_here}
use Rattle.lease_book.proofs.book.LeaseBook.task_behind.Goals as goal

pub returns-in_default-clause-none : goal.returns-in_default-clause-none
returns-in_default-clause-none c =
    subst (λ (b : Book). behind_count b.leases c.args.judging c.args.test ≡ 0) c.self.view_is
    (behind_none c.args.judging c.args.test c.self.inside.held.leases
    (behind_first c.args.judging c.args.test c.self.inside.held.leases c.self.inside.spare c.self.inside.by_judging c.first_behind.result None c.self.invariant.judgings c.self.invariant.single c.first_behind.ensures.first c.first_behind.ensures.least c.in_default.is))

pub returns-then-lease-judging-clause-none : goal.returns-then-lease-judging-clause-none
returns-then-lease-judging-clause-none c =
    subst (λ (b : Book). behind_count b.leases c.args.judging c.args.test ≡ 0) c.self.view_is
    (behind_other c.args.judging c.args.test c.self.inside.held.leases c.in-Some.lease
    (behind_first c.args.judging c.args.test c.self.inside.held.leases c.self.inside.spare c.self.inside.by_judging c.first_behind.result (Some c.in-Some.lease) c.self.invariant.judgings c.self.invariant.single c.first_behind.ensures.first c.first_behind.ensures.least c.in-Some.is) c.if-lease-judging.true)

pub returns-clause-one : goal.returns-clause-one
returns-clause-one c =
    let first = (behind_first c.args.judging c.args.test c.self.inside.held.leases c.self.inside.spare c.self.inside.by_judging c.first_behind.result (Some c.in-Some.lease) c.self.invariant.judgings c.self.invariant.single c.first_behind.ensures.first c.first_behind.ensures.least c.in-Some.is) in
    subst (λ (b : Book). EndsOne (is_behind c.args.judging c.args.test) b.leases c.in-Some.lease.task) c.self.view_is
    (first.ends (is_behind c.args.judging c.args.test) (behind_here c.args.judging c.args.test c.in-Some.lease first.passes c.if-lease-judging.false))
