use Rattle.std.proofs.Common.{◌≡◌, ◌∙◌, Some, None, sym, ap, subst, arith}
use Rattle.std.proofs.lemmas.Grind.{common_steps}
use Rattle.farm_model.specs.Leases.{lease_on, with_lease, without_task, renewed}
use Rattle.lease_tree.specs.declared.keys.Order.TheVariants as order
use Rattle.lease_book.specs.Book.{Book}
use Rattle.lease_book.specs.BookLayout.{AreSame}
use Rattle.lease_book.proofs.Index.{length_same}
use Rattle.lease_book.proofs.Changed.{layout}
use Rattle.lease_book.proofs.Renewed.{none_renewed, renewed_same, single_same, index_same}
use Rattle.lease_book.proofs.book.LeaseBook.renew.Goals as goal

pub returns-in_default-clause-leases : goal.returns-in_default-clause-leases
returns-in_default-clause-leases c =
    let none : lease_on c.args.self.now.leases c.args.task ≡ None = sym c.take.ensures.lease ∙ c.in_default.is in
    let same : c.take.new.self ≡ c.args.self.now = rw c.in_default.is at c.take.ensures.unchanged in
    ap (λ (b : Book). b.leases) same ∙ sym (none_renewed c.args.self.now.leases c.args.task c.args.until none)

pub invariant_of-self : goal.invariant_of-self
invariant_of-self c =
    let old = c.self.inside.held.leases in
    let moved = c.self-2.inside.held.leases in
    let task = c.args.task in
    let until = c.args.until in
    let there = c.self-2.invariant in
    let was : old ≡ c.args.self.now.leases = ap (λ (b : Book). b.leases) c.self.view_is in
    let some : lease_on old task ≡ Some c.in-Some.lease = ap (λ ys. lease_on ys task) was ∙ sym c.take.ensures.lease ∙ c.in-Some.is in
    let is : moved ≡ with_lease (without_task old task) c.in-Some.lease.host task until
    = ap (λ (b : Book). b.leases) c.self-2.view_is ∙ c.grant.ensures.leases ∙ ap (λ ys. with_lease ys c.in-Some.lease.host task until) (c.take.ensures.leases ∙ ap (λ ys. without_task ys task) (sym was)) in
    let same : AreSame (renewed old task until) moved = subst (AreSame (renewed old task until)) (sym is) (renewed_same old task c.in-Some.lease until c.self.invariant.single some) in
    let len = length_same (renewed old task until) moved same in
    layout _ (renewed old task until) c.after-held.ensures
    (single_same (renewed old task until) moved same there.single) (omega (arith, len, there.few))
    (index_same order.Judging (renewed old task until) moved c.self-2.inside.spare c.self-2.inside.by_judging same there.judgings)
    (index_same order.Host (renewed old task until) moved c.self-2.inside.spare c.self-2.inside.by_host same there.hosts)
    (index_same order.End (renewed old task until) moved c.self-2.inside.spare c.self-2.inside.by_end same there.ends)
    (omega (arith, len, there.room))

pub returns-clause-room : goal.returns-clause-room
returns-clause-room c = grind (arith, common_steps)
