use Rattle.std.proofs.Common.{◌≡◌, ◌≤◌, ◌+◌}
use Rattle.problem_settings.specs.DomjudgeIni.{limit_from, ini_of}
use Rattle.problem_settings.specs.Lines.{numbered, parts_behind, size_behind}
use Rattle.problem_settings.proofs.ini.read_ini.Given as goal

abbrev pub invariant-loop-left : goal.invariant-loop-left
invariant-loop-left l = record {
  said : limit_from l.ms (numbered l.number (parts_behind 10 l.left)) ≡ ini_of l.bytes;
  some : 1 ≤ l.ms;
  most : l.ms ≤ 1000000;
  short : l.number + size_behind l.left ≤ 16777218;
}

abbrev pub decreases-loop-left : goal.decreases-loop-left
decreases-loop-left l = size_behind l.left
