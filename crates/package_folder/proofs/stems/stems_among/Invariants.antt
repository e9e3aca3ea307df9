use Rattle.std.proofs.Common.{◌≡◌, filter_map, take}
use Rattle.package_folder.specs.Paths.{texts}
use Rattle.package_folder.specs.Names.{stem_of}
use Rattle.package_folder.proofs.stems.stems_among.Given as goal

abbrev pub invariant-loop-path : goal.invariant-loop-path
invariant-loop-path l = l.stems ≡ filter_map (stem_of l.folder) (take l.path-index (texts l.paths))
