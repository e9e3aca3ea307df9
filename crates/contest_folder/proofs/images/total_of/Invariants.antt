use Rattle.std.proofs.Common.{◌≡◌, take}
use Rattle.contest_folder.specs.Images.{added_all, problem_sizes}
use Rattle.contest_folder.proofs.images.total_of.Given as goal

abbrev pub invariant-loop-problem : goal.invariant-loop-problem
invariant-loop-problem l = l.total ≡ added_all 0 (problem_sizes (take l.problem-index l.problems))
