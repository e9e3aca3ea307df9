use Rattle.std.proofs.Common.{◌≡◌, ◌+◌, Some, None, sym, ap, ◌∙◌, arith, length, find, is_some, not}
use Rattle.farm_model.specs.Leases.{lease_on, without_task}
use Rattle.lease_tree.specs.declared.keys.Order.TheVariants as order
use Rattle.lease_tree.specs.Keys.{has_key}
use Rattle.lease_book.specs.Book.{Book}
use Rattle.lease_book.proofs.Counts.{one_if}
use Rattle.lease_book.proofs.Index.{index_taken, found_on_task}
use Rattle.lease_book.proofs.Singly.{some_of, one_less, on}
use Rattle.lease_book.proofs.Changed.{layout, task_of, all_stay, none_on}
use Rattle.lease_book.proofs.book.LeaseBook.take.Goals as goal

-- what the first tree gave is the lease on the task
found : (c : goal.After-self-2-1) → lease_on c.self.inside.held.leases c.args.task ≡ Some c.in-Some.lease
found c =
    sym (found_on_task c.self.inside.held.leases c.self.inside.spare c.args.task c.self.inside.by_judging c.self.invariant.judgings c.self.invariant.single)
    ∙ sym c.remove.ensures.lease ∙ c.in-Some.is

-- the lease was held, and the others stay
record IsEnded (c : goal.After-self-2-1) : Type 0 where
  same : c.in-Some.lease.task ≡ c.args.task
  held : lease_on c.self.inside.held.leases c.in-Some.lease.task ≡ Some c.in-Some.lease
  left : c.after-self-inside.result.leases ≡ without_task c.self.inside.held.leases c.in-Some.lease.task
  less : length c.self.inside.held.leases ≡ length (without_task c.self.inside.held.leases c.in-Some.lease.task) + 1

ended : (c : goal.After-self-2-1) → IsEnded c
ended c =
    let old = c.self.inside.held.leases in
    let same = task_of old c.args.task c.in-Some.lease (found c) in
    let held : lease_on old c.in-Some.lease.task ≡ Some c.in-Some.lease = ap (λ k. lease_on old k) same ∙ found c in
    let one : one_if (is_some (lease_on old c.in-Some.lease.task)) ≡ 1 = ap (λ o. one_if (is_some o)) held in
    record {
      same = same;
      held = held;
      left = c.after-self-inside.ensures ∙ ap (λ k. without_task old k) (sym same);
      less = omega (arith, one_less old c.in-Some.lease.task c.self.invariant.single, one);
    }

pub invariant_of-self-2 : goal.invariant_of-self-2
invariant_of-self-2 c =
    let old = c.self.inside.held.leases in
    let n = c.self.inside.spare in
    let lease = c.in-Some.lease in
    let e = ended c in
    let single = c.self.invariant.single in
    let a = c.remove.ensures in
    let b = c.remove-2.ensures in
    let d = c.remove-3.ensures in
    layout _ (without_task old lease.task) e.left (some_of (λ x. not (on lease.task x)) old single) (omega (arith, e.less, c.self.invariant.few))
    (index_taken order.Judging old n lease c.self.inside.by_judging c.remove.new.self c.remove.result c.self.invariant.judgings single e.held (a.lease ∙ ap (λ task. find (has_key c.self.inside.by_judging.order (record { group = task.judging; task = task })) c.self.inside.by_judging.leases) (sym e.same)) a.order a.taken a.spare)
    (index_taken order.Host old n lease c.self.inside.by_host c.remove-2.new.self c.remove-2.result c.self.invariant.hosts single e.held (b.lease ∙ ap (λ k. find (has_key c.self.inside.by_host.order k) c.self.inside.by_host.leases) c.key.ensures) b.order b.taken b.spare)
    (index_taken order.End old n lease c.self.inside.by_end c.remove-3.new.self c.remove-3.result c.self.invariant.ends single e.held (d.lease ∙ ap (λ k. find (has_key c.self.inside.by_end.order k) c.self.inside.by_end.leases) c.key-2.ensures) d.order d.taken d.spare)
    (omega (arith, e.less, c.self.invariant.room))

pub returns-in_default-clause-lease : goal.returns-in_default-clause-lease
returns-in_default-clause-lease c =
    sym c.in_default.is ∙ c.remove.ensures.lease
    ∙ found_on_task c.self.inside.held.leases c.self.inside.spare c.args.task c.self.inside.by_judging c.self.invariant.judgings c.self.invariant.single
    ∙ ap (λ (b : Book). lease_on b.leases c.args.task) c.self.view_is

pub returns-in_default-clause-leases : goal.returns-in_default-clause-leases
returns-in_default-clause-leases c =
    let none : lease_on c.self.inside.held.leases c.args.task ≡ None =
    sym (found_on_task c.self.inside.held.leases c.self.inside.spare c.args.task c.self.inside.by_judging c.self.invariant.judgings c.self.invariant.single)
    ∙ sym c.remove.ensures.lease ∙ c.in_default.is in
    sym (all_stay c.self.inside.held.leases c.args.task none) ∙ ap (λ (b : Book). without_task b.leases c.args.task) c.self.view_is

pub returns-in_default-clause-unheld : goal.returns-in_default-clause-unheld
returns-in_default-clause-unheld c =
    sym (found_on_task c.self.inside.held.leases c.self.inside.spare c.args.task c.self.inside.by_judging c.self.invariant.judgings c.self.invariant.single)
    ∙ sym c.remove.ensures.lease ∙ c.in_default.is

pub returns-clause-lease : goal.returns-clause-lease
returns-clause-lease c = sym (found c) ∙ ap (λ (b : Book). lease_on b.leases c.args.task) c.self.view_is

pub returns-clause-room : goal.returns-clause-room
returns-clause-room c =
    let e = ended c in
    omega (arith, ap (λ ys. length ys) e.left, e.less, ap (λ (b : Book). length b.leases) c.self.view_is, ap (λ (b : Book). b.spare) c.self.view_is)

pub returns-clause-few : goal.returns-clause-few
returns-clause-few c =
    let e = ended c in
    omega (arith, ap (λ ys. length ys) e.left, e.less, c.self.invariant.few)

pub returns-clause-unheld : goal.returns-clause-unheld
returns-clause-unheld c =
    let old = c.self.inside.held.leases in
    let left : c.after-self-inside.result.leases ≡ without_task old c.args.task = c.after-self-inside.ensures in
    ap (λ ys. lease_on ys c.args.task) left ∙ none_on old c.args.task
