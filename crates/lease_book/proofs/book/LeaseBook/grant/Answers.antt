use Rattle.std.proofs.Common.{ℕ, ◌≡◌, ◌<◌, ◌+◌, ◌-◌, [], ◌∷◌, ◌++◌, None, ap, subst, ◌∙◌, arith, length}
use Rattle.std.proofs.lemmas.List.{length_push}
use Rattle.farm_kinds.specs.declared.outcomes.Task.{Task}
use Rattle.farm_model.specs.declared.records.Lease.{Lease}
use Rattle.farm_model.specs.Leases.{lease_on}
use Rattle.lease_tree.specs.declared.keys.Order.TheVariants as order
use Rattle.lease_book.specs.Book.{Book, IsSinglyLeased}
use Rattle.lease_book.specs.BookLayout.{book_value, IsBookLayout}
use Rattle.lease_book.specs.declared.book.LeaseBook.TheInside.{Inside}
use Rattle.lease_book.proofs.Index.{index_added}
use Rattle.lease_book.proofs.Singly.{granted}
use Rattle.lease_book.proofs.Changed.{free_there, few_there, layout}
use Rattle.lease_book.proofs.book.LeaseBook.grant.Goals as goal

abbrev lease_of : ℕ → Task → ℕ → Lease
lease_of host task until = record { host = host; task = task; until = until }

-- no task has two leases, and so there is room
spare_there : (a : Inside) (book : Book) → book_value a ≡ book → IsBookLayout a → (IsSinglyLeased book.leases → 0 < book.spare) → 0 < a.spare
spare_there a book is h spare = subst (λ (b : Book). (IsSinglyLeased b.leases → 0 < b.spare) → 0 < a.spare) is (λ some. some h.single) spare

pub insert-requires-clause-free : goal.insert-requires-clause-free
insert-requires-clause-free c = free_there c.self.inside c.args.self.now (lease_of c.args.host c.args.task c.args.until) order.Judging c.self.inside.by_judging c.self.view_is c.requires.unheld c.self.invariant.judgings

pub insert-requires-clause-few : goal.insert-requires-clause-few
insert-requires-clause-few c = few_there c.self.inside c.args.self.now order.Judging c.self.inside.by_judging c.self.view_is c.requires.few c.self.invariant.judgings

pub insert-requires-2-clause-free : goal.insert-requires-2-clause-free
insert-requires-2-clause-free c = free_there c.self.inside c.args.self.now (lease_of c.args.host c.args.task c.args.until) order.Host c.self.inside.by_host c.self.view_is c.requires.unheld c.self.invariant.hosts

pub insert-requires-2-clause-few : goal.insert-requires-2-clause-few
insert-requires-2-clause-few c = few_there c.self.inside c.args.self.now order.Host c.self.inside.by_host c.self.view_is c.requires.few c.self.invariant.hosts

pub insert-requires-3-clause-free : goal.insert-requires-3-clause-free
insert-requires-3-clause-free c = free_there c.self.inside c.args.self.now (lease_of c.args.host c.args.task c.args.until) order.End c.self.inside.by_end c.self.view_is c.requires.unheld c.self.invariant.ends

pub insert-requires-3-clause-few : goal.insert-requires-3-clause-few
insert-requires-3-clause-few c = few_there c.self.inside c.args.self.now order.End c.self.inside.by_end c.self.view_is c.requires.few c.self.invariant.ends

pub invariant_of-self : goal.invariant_of-self
invariant_of-self c =
    let lease : Lease = record { host = c.args.host; task = c.args.task; until = c.args.until } in
    let old = c.self.inside.held.leases in
    let n = c.self.inside.spare in
    let less : n - 1 + 1 ≡ n = omega (arith, spare_there c.self.inside c.args.self.now c.self.view_is c.self.invariant c.requires.spare) in
    let is : c.after-self-inside.result.leases ≡ old ++ lease ∷ [] = c.after-self-inside.ensures in
    let unheld : lease_on old c.args.task ≡ None = ap (λ (b : Book). lease_on b.leases c.args.task) c.self.view_is ∙ c.requires.unheld in
    let a = c.insert.ensures in
    let b = c.insert-2.ensures in
    let d = c.insert-3.ensures in
    let len = length_push old lease in
    layout _ (old ++ lease ∷ []) is (granted old lease c.self.invariant.single unheld)
    (omega (arith, len, c.requires.few, ap (λ (b : Book). length b.leases) c.self.view_is))
    (index_added order.Judging old n (n - 1) lease c.self.inside.by_judging c.insert.new.self c.self.invariant.judgings a.order a.added a.spare less)
    (index_added order.Host old n (n - 1) lease c.self.inside.by_host c.insert-2.new.self c.self.invariant.hosts b.order b.added b.spare less)
    (index_added order.End old n (n - 1) lease c.self.inside.by_end c.insert-3.new.self c.self.invariant.ends d.order d.added d.spare less)
    (omega (arith, len, less, c.self.invariant.room))
