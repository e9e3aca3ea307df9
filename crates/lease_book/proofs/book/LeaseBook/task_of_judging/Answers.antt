use Rattle.std.proofs.Common.{◌≡◌, ◌∙◌, refl, sym, subst, ◌==◌}
use Rattle.farm_model.specs.declared.records.Lease.{Lease}
use Rattle.farm_model.specs.Leases.{judging_count}
use Rattle.lease_tree.specs.declared.keys.Order.TheVariants as order
use Rattle.lease_book.specs.Book.{Book}
use Rattle.lease_book.specs.Changes.{EndsOne}
use Rattle.lease_book.proofs.Index.{group_ends_one, group_none}
use Rattle.lease_book.proofs.book.LeaseBook.task_of_judging.Goals as goal

pub returns-in-Some-clause-one : goal.returns-in-Some-clause-one
returns-in-Some-clause-one c =
    subst (λ (b : Book). EndsOne (λ (x : Lease). x.task.judging == c.args.judging) b.leases c.in-Some.lease.task) c.self.view_is
    (group_ends_one (λ (x : Lease). x.task.judging == c.args.judging) order.Judging c.self.inside.held.leases c.self.inside.spare c.args.judging c.self.inside.by_judging c.in-Some.lease (λ y. refl) c.self.invariant.judgings c.self.invariant.single (sym c.first_of.ensures ∙ c.in-Some.is))

pub returns-in-None-clause-none : goal.returns-in-None-clause-none
returns-in-None-clause-none c =
    subst (λ (b : Book). judging_count b.leases c.args.judging ≡ 0) c.self.view_is
    (group_none (λ (x : Lease). x.task.judging == c.args.judging) order.Judging c.self.inside.held.leases c.self.inside.spare c.args.judging c.self.inside.by_judging (λ y. refl) c.self.invariant.judgings (sym c.first_of.ensures ∙ c.in-None.is))
