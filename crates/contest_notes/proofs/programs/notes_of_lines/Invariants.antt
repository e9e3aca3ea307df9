use Rattle.std.proofs.Common.{◌≡◌, ◌≤◌, ◌++◌, filter_map}
use Rattle.package_folder.specs.Told.{WhereTold}
use Rattle.problem_settings.specs.Lines.{parts_behind, size_behind}
use Rattle.contest_notes.specs.Notes.{note_of_line, notes_of_lines}
use Rattle.contest_notes.proofs.programs.notes_of_lines.Given as goal

abbrev pub invariant-loop-left : goal.invariant-loop-left
invariant-loop-left g l = record {
  notes : WhereTold (g.T.Tree.files l.fn.tree) (λ files.
      l.notes.items ++ filter_map (note_of_line files l.folder) (parts_behind 10 l.left) ≡ notes_of_lines files l.folder l.fn.text);
  same : g.T.Tree.files l.tree ≡ g.T.Tree.files l.fn.tree;
  later : g.T.Tree.faults l.fn.tree ≤ g.T.Tree.faults l.tree;
}

abbrev pub decreases-loop-left : goal.decreases-loop-left
decreases-loop-left g l = size_behind l.left
