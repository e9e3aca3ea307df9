use Rattle.std.proofs.Common.{◌≡◌}
use Rattle.core_tests.proofs.judging_core_tests.claims_each.Given as goal

abbrev pub invariant-loop-test : goal.invariant-loop-test
invariant-loop-test l = l.judge.hosts ≡ l.hosts
