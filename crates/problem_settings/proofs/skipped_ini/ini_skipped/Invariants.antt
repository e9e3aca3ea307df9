use Rattle.std.proofs.Common.{◌≡◌, ◌≤◌, ◌+◌, ◌++◌}
use Rattle.problem_settings.specs.Lines.{numbered, parts_behind, size_behind}
use Rattle.problem_settings.specs.Skipped.{ini_skipped, settings_skipped}
use Rattle.problem_settings.proofs.skipped_ini.ini_skipped.Given as goal

abbrev pub invariant-loop-left : goal.invariant-loop-left
invariant-loop-left l = record {
  said : l.keys.items ++ settings_skipped (numbered l.number (parts_behind 10 l.left)) ≡ ini_skipped l.bytes;
  short : l.number + size_behind l.left ≤ 16777218;
}

abbrev pub decreases-loop-left : goal.decreases-loop-left
decreases-loop-left l = size_behind l.left
