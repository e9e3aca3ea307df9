use Rattle.std.proofs.Common.{◌≡◌, find, drop}
use Rattle.package_folder.specs.Paths.{texts}
use Rattle.package_folder.specs.Names.{lacks_answer}
use Rattle.package_folder.proofs.stems.first_lacking.Given as goal

abbrev pub invariant-loop-stem : goal.invariant-loop-stem
invariant-loop-stem l = find (lacks_answer l.paths) (drop l.stem-index (texts l.stems)) ≡ find (lacks_answer l.paths) (texts l.stems)
