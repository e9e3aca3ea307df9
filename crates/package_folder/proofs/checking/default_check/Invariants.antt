use Rattle.std.proofs.Common.{◌≡◌, ◌<◌, ℕ, None, drop, get_or}
use Rattle.default_validator.specs.Accepts.{wide_token_of}
use Rattle.package_folder.specs.declared.package.Test.{Test}
use Rattle.package_folder.specs.Reading.{default_check}
use Rattle.package_folder.proofs.checking.default_check.Given as goal

abbrev pub invariant-loop-test : goal.invariant-loop-test
invariant-loop-test l = record {
  check : default_check l.flags (drop l.test-index l.tests) ≡ default_check l.flags l.tests;
  none : (k : ℕ) (d : Test) → k < l.test-index → wide_token_of l.flags (get_or l.tests k d).answer ≡ None;
}
