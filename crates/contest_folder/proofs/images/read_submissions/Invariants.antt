use Rattle.std.proofs.Common.{◌≡◌, ◌≤◌, ◌++◌, All, map, find, take, drop, length}
use Rattle.package_folder.specs.Told.{WhereTold}
use Rattle.contest_folder.specs.RosterShape.{IsPlaced}
use Rattle.contest_folder.specs.Images.{images_of, lacks_image, submission_of, added_all, problem_sizes, image_sizes, total_limit}
use Rattle.contest_folder.proofs.images.read_submissions.Given as goal

abbrev pub invariant-loop-entry : goal.invariant-loop-entry
invariant-loop-entry g l = record {
  found : WhereTold (g.T.Tree.files l.fn.tree) (λ files.
      find (lacks_image files (images_of l.path)) (drop l.entry-index l.entries) ≡ find (lacks_image files (images_of l.path)) l.entries);
  total : WhereTold (g.T.Tree.files l.fn.tree) (λ files.
      l.held.total ≡ added_all 0 (problem_sizes l.problems ++ image_sizes (map (submission_of files (images_of l.path)) (take l.entry-index l.entries))));
  held : WhereTold (g.T.Tree.files l.fn.tree) (λ files.
      l.held.total ≤ total_limit → l.held.submissions.items ≡ map (submission_of files (images_of l.path)) (take l.entry-index l.entries));
  count : length l.held.submissions.items ≤ l.entry-index;
  placed : All (IsPlaced l.problems) l.held.submissions.items;
  same : g.T.Tree.files l.tree ≡ g.T.Tree.files l.fn.tree;
  first : g.T.Tree.faults l.tree ≡ g.T.Tree.faults l.fn.tree;
}
