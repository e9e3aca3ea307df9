use Rattle.std.proofs.Common.{◌≡◌}
use Rattle.package_folder.specs.Told.{WhereTold}
use Rattle.package_folder.specs.Walk.{Reaches}
use Rattle.package_folder.proofs.Walks.{depth_left}
use Rattle.package_folder.proofs.walk.paths_below.Given as goal

abbrev pub invariant-levels : goal.invariant-levels
invariant-levels g l = record {
  reaches : WhereTold (g.T.Tree.files l.fn.tree) (λ files. Reaches files l.folder l.found l.folders);
  same : g.T.Tree.files l.tree ≡ g.T.Tree.files l.fn.tree;
  first : g.T.Tree.faults l.tree ≡ g.T.Tree.faults l.fn.tree;
}

abbrev pub decreases-levels : goal.decreases-levels
decreases-levels g l = depth_left l.folders
