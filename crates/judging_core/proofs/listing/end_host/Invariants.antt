use Rattle.std.proofs.Common.{◌≡◌, length}
use Rattle.farm_kinds.specs.RuleValue.{RuleValue}
use Rattle.farm_model.specs.Leases.{without_host}
use Rattle.lease_book.specs.Book.{room}
use Rattle.judging_core.specs.JudgeShape.{judging_values, AreRuledBy}
use Rattle.judging_core.specs.Listed.{widths, IsListed}
use Rattle.judging_core.proofs.listing.end_host.Given as goal

abbrev pub invariant-loop-task : goal.invariant-loop-task
invariant-loop-task l = record {
  left : without_host l.leases.leases l.host ≡ without_host l.fn.leases.leases l.host;
  room : room l.leases ≡ room l.fn.leases;
  listed : (rule : RuleValue) → AreRuledBy rule l.judgings
      → IsListed rule (judging_values l.judgings) l.fn.leases.leases l.fn.tasks
      → IsListed rule (judging_values l.judgings) l.leases.leases l.tasks;
  widths : widths l.tasks ≡ widths l.fn.tasks;
}

abbrev pub decreases-loop-task : goal.decreases-loop-task
decreases-loop-task l = length l.leases.leases
