-- The tasks of the first tests are listed.
use Rattle.judging_core.specs.Listed.{AreTestsShown}
use Rattle.judging_core.proofs.listing.show_tests.Given as goal

abbrev pub invariant-loop-i : goal.invariant-loop-i
invariant-loop-i l = AreTestsShown l.judging l.i l.fn.tasks l.tasks
