use Rattle.std.proofs.Common.{◌≡◌, ◌≤◌, ◌+◌, All, IsUtf8}
use Rattle.problem_settings.specs.Lines.{parts_behind, size_behind}
use Rattle.contest_folder.specs.declared.lines.Entry.{Entry}
use Rattle.contest_folder.specs.SubmissionLines.{entries_from, entries_of}
use Rattle.contest_folder.proofs.Steps.{behind}
use Rattle.contest_folder.proofs.lines.entries_of.Given as goal

abbrev pub invariant-loop-left : goal.invariant-loop-left
invariant-loop-left l = record {
  said : behind l.entries.items (entries_from l.line l.number (parts_behind 10 l.left)) ≡ entries_of l.fn.text;
  files : All (λ (entry : Entry). IsUtf8 entry.file) l.entries.items;
  short : l.line + size_behind l.left ≤ 16777218;
  fewer : l.number ≤ l.line;
}

abbrev pub decreases-loop-left : goal.decreases-loop-left
decreases-loop-left l = size_behind l.left
