use Rattle.std.proofs.Common.{◌≡◌, take}
use Rattle.contest_folder.specs.Images.{added_all, test_sizes}
use Rattle.contest_folder.proofs.images.added_tests.Given as goal

abbrev pub invariant-loop-test : goal.invariant-loop-test
invariant-loop-test l = l.total ≡ added_all l.fn.total (test_sizes (take l.test-index l.tests))
