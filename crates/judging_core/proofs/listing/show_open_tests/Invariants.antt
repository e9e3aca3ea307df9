-- The open tasks of the first tests are listed.
use Rattle.std.proofs.Common.{◌≡◌}
use Rattle.farm_kinds.specs.RuleValue.{RuleValue}
use Rattle.judging_core.specs.JudgeShape.{judging_values, AreRuledBy}
use Rattle.judging_core.specs.Listed.{widths, AreWide, AreOpenShown}
use Rattle.judging_core.proofs.listing.show_open_tests.Given as goal

abbrev pub invariant-loop-i : goal.invariant-loop-i
invariant-loop-i l = record {
  shown : (rule : RuleValue) → AreRuledBy rule l.judgings → AreWide (judging_values l.judgings) l.fn.tasks
      → AreOpenShown rule (judging_values l.judgings) l.leases.leases l.judging l.i l.fn.tasks l.tasks;
  widths : widths l.tasks ≡ widths l.fn.tasks;
}
