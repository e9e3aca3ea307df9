use Rattle.std.proofs.Common.{◌≡◌, ◌≤◌, take}
use Rattle.package_folder.specs.Paths.{texts}
use Rattle.package_folder.specs.Told.{WhereTold}
use Rattle.contest_notes.specs.Notes.{notes_of_packages}
use Rattle.contest_notes.proofs.finding.notes_of_packages.Given as goal

abbrev pub invariant-loop-short : goal.invariant-loop-short
invariant-loop-short g l = record {
  notes : WhereTold (g.T.Tree.files l.fn.tree) (λ files. l.notes.items ≡ notes_of_packages files l.folder (take l.short-index (texts l.shorts)));
  same : g.T.Tree.files l.tree ≡ g.T.Tree.files l.fn.tree;
  later : g.T.Tree.faults l.fn.tree ≤ g.T.Tree.faults l.tree;
}
