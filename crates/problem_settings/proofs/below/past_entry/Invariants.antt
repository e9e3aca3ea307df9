use Rattle.std.proofs.Common.{◌≡◌, ◌≤◌, length}
use Rattle.problem_settings.specs.ProblemYaml.{belongs}
use Rattle.problem_settings.specs.Views.{line_value, lines_at, past}
use Rattle.problem_settings.proofs.below.past_entry.Given as goal

abbrev pub invariant-loop-left : goal.invariant-loop-left
invariant-loop-left l = record {
  said : past (belongs (line_value l.head)) (lines_at l.left) ≡ past (belongs (line_value l.head)) (lines_at l.lines);
  shorter : length (lines_at l.left) ≤ length (lines_at l.lines);
}

abbrev pub decreases-loop-left : goal.decreases-loop-left
decreases-loop-left l = length (lines_at l.left)
