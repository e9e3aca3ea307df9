use Rattle.std.proofs.Common.{◌≡◌, ◌∙◌, refl, sym, ap, count_by, Some}
use Rattle.farm_model.specs.Leases.{renewed_of}
use Rattle.lease_book.specs.Walks.{IsNext, is_left}
use Rattle.lease_book.proofs.Walks.{is_stale, none_stale, stale_next, renewed_next, all_renewed}
use Rattle.lease_book.proofs.book.LeaseBook.renew_of.Goals as goal

pub loop-task-init : goal.loop-task-init
loop-task-init c = record {
  all = refl;
  passed = none_stale c.args.host c.args.judging c.args.until c.args.self.now.leases;
  spare = refl;
  room = refl;
}

pub loop-task-preserved : goal.loop-task-preserved
loop-task-preserved c =
    let host = c.args.host in
    let judging = c.args.judging in
    let until = c.args.until in
    let xs = c.loop-task.self.leases in
    let task = c.in-Some.task in
    let next : IsNext host judging c.loop-task.last xs task = rw c.in-Some.is at c.next_held.ensures.next in
    record {
      all = ap (λ ys. renewed_of ys host judging until) c.renew.ensures.leases ∙ renewed_next host judging until c.loop-task.last xs task next ∙ c.loop-task.invariant.all;
      passed = ap (λ ys. count_by (is_stale host judging until (Some task.test)) ys) c.renew.ensures.leases ∙ stale_next host judging until c.loop-task.last xs task c.loop-task.invariant.passed next;
      spare = c.renew.ensures.spare ∙ c.loop-task.invariant.spare;
      room = c.renew.ensures.room ∙ c.loop-task.invariant.room;
    }

pub returns-clause-leases : goal.returns-clause-leases
returns-clause-leases c =
    let none : count_by (is_left c.args.host c.args.judging c.loop-task.last) c.loop-task.self.leases ≡ 0 = rw c.in_default.is at c.next_held.ensures.none in
    sym (all_renewed c.args.host c.args.judging c.args.until c.loop-task.last c.loop-task.self.leases c.loop-task.invariant.passed none) ∙ c.loop-task.invariant.all
