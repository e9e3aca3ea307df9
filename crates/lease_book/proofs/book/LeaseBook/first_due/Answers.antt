use Rattle.std.proofs.Common.{◌≡◌, ◌∙◌, None, Some, sym, subst, count_by}
use Rattle.farm_model.specs.Leases.{has_ended, first_due}
use Rattle.lease_tree.specs.declared.keys.Order.TheVariants as order
use Rattle.lease_book.specs.Book.{Book, NoneEnds}
use Rattle.lease_book.specs.Changes.{EndsOne}
use Rattle.lease_book.proofs.Singly.{held_on, ends_one}
use Rattle.lease_book.proofs.Due.{IsEarliest, earliest, no_lease, due_first, due_has_ended, none_due, none_ends, none_ended}
use Rattle.lease_book.proofs.book.LeaseBook.first_due.Goals as goal

none_there : (c : goal.In_default) → count_by (has_ended c.args.now) c.self.inside.held.leases ≡ 0
none_there c = no_lease (has_ended c.args.now) order.End c.self.inside.held.leases c.self.inside.spare c.self.inside.by_end c.self.invariant.ends (sym c.first.ensures.first ∙ c.in_default.is)

pub returns-in_default-clause-first : goal.returns-in_default-clause-first
returns-in_default-clause-first c = subst (λ (b : Book). None ≡ first_due b.leases c.args.now) c.self.view_is (sym (none_due c.self.inside.held.leases c.args.now (none_there c)))

pub returns-in_default-clause-none : goal.returns-in_default-clause-none
returns-in_default-clause-none c = subst (λ (b : Book). NoneEnds b.leases c.args.now) c.self.view_is (none_ends c.self.inside.held.leases c.args.now (none_there c))

none_yet : (c : goal.Then-now-lease) → count_by (has_ended c.args.now) c.self.inside.held.leases ≡ 0
none_yet c =
    let first = earliest c.self.inside.held.leases c.self.inside.spare c.self.inside.by_end c.first.result c.in-Some.lease c.self.invariant.ends c.first.ensures.first c.first.ensures.none_before c.in-Some.is in
    none_ended c.self.inside.held.leases c.args.now c.in-Some.lease first.none c.if-now-lease.true

pub returns-then-now-lease-clause-first : goal.returns-then-now-lease-clause-first
returns-then-now-lease-clause-first c = subst (λ (b : Book). None ≡ first_due b.leases c.args.now) c.self.view_is (sym (none_due c.self.inside.held.leases c.args.now (none_yet c)))

pub returns-then-now-lease-clause-none : goal.returns-then-now-lease-clause-none
returns-then-now-lease-clause-none c = subst (λ (b : Book). NoneEnds b.leases c.args.now) c.self.view_is (none_ends c.self.inside.held.leases c.args.now (none_yet c))

found : (c : goal.Else-now-lease) → IsEarliest c.self.inside.held.leases c.in-Some.lease
found c = earliest c.self.inside.held.leases c.self.inside.spare c.self.inside.by_end c.first.result c.in-Some.lease c.self.invariant.ends c.first.ensures.first c.first.ensures.none_before c.in-Some.is

pub returns-clause-first : goal.returns-clause-first
returns-clause-first c =
    subst (λ (b : Book). Some c.in-Some.lease ≡ first_due b.leases c.args.now) c.self.view_is
    (sym (due_first c.self.inside.held.leases c.args.now c.in-Some.lease c.self.invariant.single (found c).there (found c).none c.if-now-lease.false))

pub returns-clause-one : goal.returns-clause-one
returns-clause-one c =
    subst (λ (b : Book). EndsOne (has_ended c.args.now) b.leases c.in-Some.lease.task) c.self.view_is
    (ends_one (has_ended c.args.now) c.self.inside.held.leases c.in-Some.lease c.self.invariant.single
    (held_on c.self.inside.held.leases c.in-Some.lease c.self.invariant.single (found c).there) (due_has_ended c.args.now c.in-Some.lease c.if-now-lease.false))
