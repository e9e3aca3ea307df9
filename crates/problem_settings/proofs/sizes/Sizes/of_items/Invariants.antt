use Rattle.std.proofs.Common.{◌≡◌}
use Rattle.problem_settings.specs.Lines.{parts, parts_behind, size_behind}
use Rattle.problem_settings.specs.Sizes.{no_sizes, items_from}
use Rattle.problem_settings.specs.Views.{HasSizes}
use Rattle.problem_settings.proofs.sizes.Sizes.of_items.Given as goal

abbrev pub invariant-loop-left : goal.invariant-loop-left
invariant-loop-left l = record {
  said : items_from l.sizes (parts_behind 44 l.left) ≡ items_from no_sizes (parts 44 l.items);
  sound : HasSizes l.sizes;
}

abbrev pub decreases-loop-left : goal.decreases-loop-left
decreases-loop-left l = size_behind l.left
