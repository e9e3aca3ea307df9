use Rattle.std.proofs.Common.{◌≡◌, ◌∙◌, refl, sym, subst}
use Rattle.farm_model.specs.Leases.{holds, held_count}
use Rattle.lease_tree.specs.declared.keys.Order.TheVariants as order
use Rattle.lease_book.specs.Book.{Book}
use Rattle.lease_book.specs.Changes.{EndsOne}
use Rattle.lease_book.proofs.Index.{group_ends_one, group_none}
use Rattle.lease_book.proofs.book.LeaseBook.task_of_host.Goals as goal

pub returns-in-Some-clause-one : goal.returns-in-Some-clause-one
returns-in-Some-clause-one c =
    subst (λ (b : Book). EndsOne (holds c.args.host) b.leases c.in-Some.lease.task) c.self.view_is
    (group_ends_one (holds c.args.host) order.Host c.self.inside.held.leases c.self.inside.spare c.args.host c.self.inside.by_host c.in-Some.lease (λ y. refl) c.self.invariant.hosts c.self.invariant.single (sym c.first_of.ensures ∙ c.in-Some.is))

pub returns-in-None-clause-none : goal.returns-in-None-clause-none
returns-in-None-clause-none c =
    subst (λ (b : Book). held_count b.leases c.args.host ≡ 0) c.self.view_is
    (group_none (holds c.args.host) order.Host c.self.inside.held.leases c.self.inside.spare c.args.host c.self.inside.by_host (λ y. refl) c.self.invariant.hosts (sym c.first_of.ensures ∙ c.in-None.is))
