use Rattle.std.proofs.Common.{◌≡◌, ◌∙◌, List, sym, ap, subst, arith, length}
use Rattle.std.proofs.lemmas.List.Sums.{length-filter}
use Rattle.farm_model.specs.declared.records.Lease.{Lease}
use Rattle.farm_model.specs.Leases.{has_ended, left_after}
use Rattle.lease_book.proofs.Counts.{length_kept}
use Rattle.judging_core.specs.JudgeShape.{judging_values}
use Rattle.judging_core.specs.Listed.{IsListed, IsShownIfOpen}
use Rattle.judging_core.proofs.Listed.{ended_listed}
use Rattle.judging_core.proofs.listing.end_due.Goals as goal

pub loop-lease-preserved : goal.loop-lease-preserved
loop-lease-preserved c = record {
  left = c.in-Some.ensures.one.left ∙ c.loop-lease.invariant.left;
  room = c.in-Some.ensures.room ∙ c.loop-lease.invariant.room;
  listed = λ rule ruled h.
      let js = judging_values c.args.judgings.now in
      let before = c.loop-lease.invariant.listed rule ruled h in
      let shown = c.show_open.ensures.shown rule ruled before.wide in
      subst (λ (leases : List Lease). IsListed rule js leases c.show_open.new.tasks) (sym c.in-Some.ensures.leases)
      (ended_listed rule js c.loop-lease.leases.leases c.loop-lease.tasks c.show_open.new.tasks c.in-Some.lease.task before
      (subst (λ (leases : List Lease). IsShownIfOpen rule js leases c.in-Some.lease.task c.loop-lease.tasks c.show_open.new.tasks) c.in-Some.ensures.leases shown));
  widths = c.show_open.ensures.widths ∙ c.loop-lease.invariant.widths;
}

left_in : (c : goal.After-len) → c.due.new.self.leases ≡ left_after c.args.leases.now.leases c.args.now
left_in c = c.in_default.ensures.leases ∙ (sym c.in_default.ensures.none.left ∙ c.loop-lease.invariant.left)

pub overflow_sub-result : goal.overflow_sub-result
overflow_sub-result c =
    let at = c.args.leases.now.leases in
    omega (arith, length_kept (has_ended c.args.now) at, ap (λ (xs : List Lease). length xs) (left_in c))

pub returns-clause-count : goal.returns-clause-count
returns-clause-count c =
    let at = c.args.leases.now.leases in
    omega (arith, length_kept (has_ended c.args.now) at, length-filter (has_ended c.args.now) at, ap (λ (xs : List Lease). length xs) (left_in c))

pub returns-clause-listed : goal.returns-clause-listed
returns-clause-listed c = λ rule ruled h.
    subst (λ (leases : List Lease). IsListed rule (judging_values c.args.judgings.now) leases c.loop-lease.tasks) (sym c.in_default.ensures.leases) (c.loop-lease.invariant.listed rule ruled h)
