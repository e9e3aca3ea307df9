use Rattle.std.proofs.Common.{◌≡◌, ◌++◌}
use Rattle.problem_settings.specs.Lines.{parts, parts_behind, size_behind}
use Rattle.problem_settings.specs.Skipped.{items_skipped}
use Rattle.problem_settings.specs.Views.{line_value}
use Rattle.problem_settings.proofs.skipped.push_items.Given as goal

abbrev pub invariant-loop-left : goal.invariant-loop-left
invariant-loop-left l =
    l.keys.items ++ items_skipped (line_value l.line) (parts_behind 44 l.left)
    ≡ l.initial.keys.items ++ items_skipped (line_value l.line) (parts 44 l.items)

abbrev pub decreases-loop-left : goal.decreases-loop-left
decreases-loop-left l = size_behind l.left
