use Rattle.std.proofs.Common.{◌≡◌, find, drop}
use Rattle.package_folder.specs.Paths.{texts}
use Rattle.package_folder.specs.Names.{is_groups}
use Rattle.package_folder.proofs.stems.first_groups.Given as goal

abbrev pub invariant-loop-path : goal.invariant-loop-path
invariant-loop-path l = find is_groups (drop l.path-index (texts l.paths)) ≡ find is_groups (texts l.paths)
