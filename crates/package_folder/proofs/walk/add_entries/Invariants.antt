use Rattle.std.proofs.Common.{◌≡◌, ◌++◌, take}
use Rattle.package_folder.specs.Walk.{files_among, folders_among}
use Rattle.package_folder.proofs.walk.add_entries.Given as goal

abbrev pub invariant-loop-entry : goal.invariant-loop-entry
invariant-loop-entry l = record {
  files : l.files ≡ l.fn.files ++ files_among l.folder (take l.entry-index l.entries);
  folders : l.folders ≡ l.fn.folders ++ folders_among l.folder (take l.entry-index l.entries);
}
