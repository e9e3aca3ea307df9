use Rattle.std.proofs.Common.{◌≡◌, length}
use Rattle.farm_kinds.specs.RuleValue.{RuleValue}
use Rattle.farm_model.specs.Leases.{left_after, ended_at}
use Rattle.lease_book.specs.Book.{room}
use Rattle.judging_core.specs.JudgeShape.{judging_values, AreRuledBy}
use Rattle.judging_core.specs.Listed.{widths, IsListed}
use Rattle.judging_core.proofs.listing.end_due.Given as goal

abbrev pub invariant-loop-lease : goal.invariant-loop-lease
invariant-loop-lease l = record {
  left : left_after l.leases.leases l.now ≡ left_after l.fn.leases.leases l.now;
  room : room l.leases ≡ room l.fn.leases;
  listed : (rule : RuleValue) → AreRuledBy rule l.judgings
      → IsListed rule (judging_values l.judgings) l.fn.leases.leases l.fn.tasks
      → IsListed rule (judging_values l.judgings) l.leases.leases l.tasks;
  widths : widths l.tasks ≡ widths l.fn.tasks;
}

abbrev pub decreases-loop-lease : goal.decreases-loop-lease
decreases-loop-lease l = length (ended_at l.leases.leases l.now)
