use Rattle.std.proofs.Common.{◌≡◌, ◌++◌, List, ℕ, drop}
use Rattle.package_folder.specs.Told.{WhereTold}
use Rattle.package_folder.specs.Paths.{texts}
use Rattle.package_folder.specs.Walk.{Reaches, Deepens}
use Rattle.package_folder.proofs.walk.list_level.Given as goal

abbrev pub invariant-loop-folder : goal.invariant-loop-folder
invariant-loop-folder g l = record {
  reaches : WhereTold (g.T.Tree.files l.fn.tree) (λ files. (root : List ℕ) → Reaches files root l.fn.found l.folders
      → Reaches files root l.found (drop l.folder-index l.folders ++ l.inner));
  deepens : Deepens l.folders l.inner;
  same : g.T.Tree.files l.tree ≡ g.T.Tree.files l.fn.tree;
  first : g.T.Tree.faults l.tree ≡ g.T.Tree.faults l.fn.tree;
}
