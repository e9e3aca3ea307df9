use Rattle.std.proofs.Common.{◌≡◌, filter_map, take}
use Rattle.package_folder.specs.Paths.{texts}
use Rattle.package_notes.specs.Files.{file_note}
use Rattle.package_notes.proofs.files.notes_among.Given as goal

abbrev pub invariant-loop-path : goal.invariant-loop-path
invariant-loop-path l = l.notes.items ≡ filter_map (file_note l.folder l.all) (take l.path-index (texts l.paths))
