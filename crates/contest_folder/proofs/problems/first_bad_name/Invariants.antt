use Rattle.std.proofs.Common.{◌≡◌, find, drop}
use Rattle.package_folder.specs.Paths.{texts}
use Rattle.contest_folder.specs.Problems.{is_bad_name}
use Rattle.contest_folder.proofs.problems.first_bad_name.Given as goal

abbrev pub invariant-loop-short : goal.invariant-loop-short
invariant-loop-short l = find is_bad_name (drop l.short-index (texts l.shorts)) ≡ find is_bad_name (texts l.shorts)
