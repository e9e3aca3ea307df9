use Rattle.std.proofs.Common.{◌≡◌, ◌≤◌, List, ℕ, length, map, take, drop}
use Rattle.package_folder.specs.Told.{WhereTold}
use Rattle.package_folder.specs.Paths.{texts}
use Rattle.package_folder.specs.Reading.{test_at, total_from, total_limit}
use Rattle.package_folder.proofs.reading.read_tests.Given as goal

abbrev pub invariant-loop-stem : goal.invariant-loop-stem
invariant-loop-stem g l = record {
  tests : WhereTold (g.T.Tree.files l.fn.tree) (λ files. l.tests ≡ map (test_at files l.path) (take l.stem-index (texts l.stems)));
  total : WhereTold (g.T.Tree.files l.fn.tree) (λ files.
      total_from files l.path l.total (drop l.stem-index (texts l.stems)) ≡ total_from files l.path 0 (texts l.stems));
  bound : l.total ≤ total_limit;
  count : length l.tests ≡ l.stem-index;
  same : g.T.Tree.files l.tree ≡ g.T.Tree.files l.fn.tree;
  first : g.T.Tree.faults l.tree ≡ g.T.Tree.faults l.fn.tree;
}
