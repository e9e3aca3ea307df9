use Rattle.std.proofs.Common.{ℕ, subst, sym, Option}
use Rattle.lease_tree.specs.declared.keys.Order.TheVariants as order
use Rattle.lease_tree.specs.Keys.{is_from, is_behind as stands_behind}
use Rattle.lease_book.specs.Book.{Book}
use Rattle.lease_book.specs.Walks.{FirstOf, key_at, stands_after}
use Rattle.lease_book.proofs.Walks.{tree_first}
use Rattle.lease_book.proofs.book.LeaseBook.first_after.Goals as goal

pub returns-in-None : goal.returns-in-None
returns-in-None c =
    subst (λ (b : Book). FirstOf order.Host (stands_after c.args.host c.args.judging c.args.last order.Host) b.leases c.first_from.result) c.self.view_is
    (subst (λ (last : Option ℕ). FirstOf order.Host (stands_after c.args.host c.args.judging last order.Host) c.self.inside.held.leases c.first_from.result) (sym c.in-None.is)
    (tree_first order.Host (λ by. is_from by (key_at c.args.host c.args.judging 0)) c.self.inside.held.leases c.self.inside.spare c.self.inside.by_host c.first_from.result
    c.self.invariant.hosts c.self.invariant.single c.first_from.ensures.first c.first_from.ensures.least))

pub returns-in-Some : goal.returns-in-Some
returns-in-Some c =
    subst (λ (b : Book). FirstOf order.Host (stands_after c.args.host c.args.judging c.args.last order.Host) b.leases c.first_behind.result) c.self.view_is
    (subst (λ (last : Option ℕ). FirstOf order.Host (stands_after c.args.host c.args.judging last order.Host) c.self.inside.held.leases c.first_behind.result) (sym c.in-Some.is)
    (tree_first order.Host (λ by. stands_behind by (key_at c.args.host c.args.judging c.in-Some.test)) c.self.inside.held.leases c.self.inside.spare c.self.inside.by_host c.first_behind.result
    c.self.invariant.hosts c.self.invariant.single c.first_behind.ensures.first c.first_behind.ensures.least))
