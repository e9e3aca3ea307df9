use Rattle.std.proofs.Common.{◌≡◌, ◌≤◌, filter_map, take}
use Rattle.package_folder.specs.Paths.{texts}
use Rattle.package_folder.specs.Told.{WhereTold}
use Rattle.package_notes.specs.Package.{elf_note}
use Rattle.package_notes.proofs.package.elf_notes_among.Given as goal

abbrev pub invariant-loop-file : goal.invariant-loop-file
invariant-loop-file g l = record {
  notes : WhereTold (g.T.Tree.files l.fn.tree) (λ held. l.notes.items ≡ filter_map (elf_note held l.path) (take l.file-index (texts l.files)));
  same : g.T.Tree.files l.tree ≡ g.T.Tree.files l.fn.tree;
  later : g.T.Tree.faults l.fn.tree ≤ g.T.Tree.faults l.tree;
}
