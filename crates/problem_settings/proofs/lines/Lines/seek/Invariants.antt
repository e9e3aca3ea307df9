use Rattle.std.proofs.Common.{◌≡◌, ◌≤◌, ◌+◌}
use Rattle.problem_settings.specs.Lines.{lines_from, parts_behind, size_behind}
use Rattle.problem_settings.proofs.lines.Lines.seek.Given as goal

abbrev pub invariant-loop-left : goal.invariant-loop-left
invariant-loop-left l = record {
  said : lines_from l.number (parts_behind 10 l.left) ≡ lines_from l.fn.number (parts_behind 10 l.fn.text);
  short : l.number + size_behind l.left ≤ 16777218;
}

abbrev pub decreases-loop-left : goal.decreases-loop-left
decreases-loop-left l = size_behind l.left
