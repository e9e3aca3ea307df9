use Rattle.std.proofs.Common.{◌≡◌, ◌∙◌, List, sym, ap, subst, arith}
use Rattle.farm_model.specs.declared.records.Lease.{Lease}
use Rattle.farm_model.specs.Leases.{holds, held_count, without_host}
use Rattle.lease_book.proofs.Changed.{IsEmptied, emptied}
use Rattle.judging_core.specs.JudgeShape.{judging_values}
use Rattle.judging_core.specs.Listed.{IsListed, IsShownIfOpen}
use Rattle.judging_core.proofs.Listed.{ended_listed}
use Rattle.judging_core.proofs.listing.end_host.Goals as goal

pub loop-task-preserved : goal.loop-task-preserved
loop-task-preserved c = record {
  left = ap (λ (xs : List Lease). without_host xs c.args.host) c.end.ensures.leases ∙ c.in-Some.ensures.one.left ∙ c.loop-task.invariant.left;
  room = c.end.ensures.room ∙ c.loop-task.invariant.room;
  listed = λ rule ruled h.
      let js = judging_values c.args.judgings.now in
      let before = c.loop-task.invariant.listed rule ruled h in
      let shown = c.show_open.ensures.shown rule ruled before.wide in
      subst (λ (leases : List Lease). IsListed rule js leases c.show_open.new.tasks) (sym c.end.ensures.leases)
      (ended_listed rule js c.loop-task.leases.leases c.loop-task.tasks c.show_open.new.tasks c.in-Some.task before
      (subst (λ (leases : List Lease). IsShownIfOpen rule js leases c.in-Some.task c.loop-task.tasks c.show_open.new.tasks) c.end.ensures.leases shown));
  widths = c.show_open.ensures.widths ∙ c.loop-task.invariant.widths;
}

ended : (c : goal.After-len) → IsEmptied (holds c.args.host) c.args.leases.now c.loop-task.leases
ended c =
    let none : held_count c.loop-task.leases.leases c.args.host ≡ 0 = rw c.in_default.is at c.task_of_host.ensures.none in
    emptied (holds c.args.host) c.args.leases.now c.loop-task.leases none c.loop-task.invariant.left c.loop-task.invariant.room

pub overflow_sub-result : goal.overflow_sub-result
overflow_sub-result c = let e = ended c in omega (arith, e.count, c.len-held.ensures.count, c.len.ensures.count)

pub returns-clause-count : goal.returns-clause-count
returns-clause-count c = let e = ended c in omega (arith, e.count, c.len-held.ensures.count, c.len.ensures.count)

pub returns-clause-leases : goal.returns-clause-leases
returns-clause-leases c = (ended c).leases
