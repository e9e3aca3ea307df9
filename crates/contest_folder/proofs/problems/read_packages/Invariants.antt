use Rattle.std.proofs.Common.{◌≡◌, All, take, drop}
use Rattle.package_folder.specs.Package.{IsPackage}
use Rattle.package_folder.specs.Paths.{texts}
use Rattle.package_folder.specs.Told.{WhereTold}
use Rattle.contest_folder.specs.declared.roster.Problem.{Problem}
use Rattle.contest_folder.specs.RosterShape.{names_of}
use Rattle.contest_folder.specs.Problems.{packages_in}
use Rattle.contest_folder.proofs.Steps.{behind}
use Rattle.contest_folder.proofs.problems.read_packages.Given as goal

abbrev pub invariant-loop-short : goal.invariant-loop-short
invariant-loop-short g l = record {
  problems : WhereTold (g.T.Tree.files l.fn.tree) (λ files.
      behind l.problems.items (packages_in files l.folder l.ips (drop l.short-index (texts l.shorts))) ≡ packages_in files l.folder l.ips (texts l.shorts));
  named : names_of l.problems.items ≡ take l.short-index (texts l.shorts);
  packages : All (λ (problem : Problem). IsPackage problem.contents) l.problems.items;
  same : g.T.Tree.files l.tree ≡ g.T.Tree.files l.fn.tree;
  first : g.T.Tree.faults l.tree ≡ g.T.Tree.faults l.fn.tree;
}
