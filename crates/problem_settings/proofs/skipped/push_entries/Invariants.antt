use Rattle.std.proofs.Common.{◌≡◌, ◌++◌, length}
use Rattle.problem_settings.specs.Entries.{entries}
use Rattle.problem_settings.specs.ProblemYaml.{belongs}
use Rattle.problem_settings.specs.Skipped.{skipped_from}
use Rattle.problem_settings.specs.Views.{lines_at}
use Rattle.problem_settings.proofs.skipped.push_entries.Given as goal

abbrev pub invariant-loop-left : goal.invariant-loop-left
invariant-loop-left l =
    l.keys.items ++ skipped_from (entries belongs (lines_at l.left))
    ≡ l.initial.keys.items ++ skipped_from (entries belongs (lines_at l.lines))

abbrev pub decreases-loop-left : goal.decreases-loop-left
decreases-loop-left l = length (lines_at l.left)
