use Rattle.std.proofs.Common.{◌≡◌, [], drop}
use Rattle.package_folder.specs.Paths.{texts}
use Rattle.package_notes.specs.Files.{other_folders_from}
use Rattle.package_notes.proofs.files.other_folders.Given as goal

abbrev pub invariant-loop-path : goal.invariant-loop-path
invariant-loop-path l =
    other_folders_from l.root l.names.items (drop l.path-index (texts l.paths)) ≡ other_folders_from l.root [] (texts l.paths)
