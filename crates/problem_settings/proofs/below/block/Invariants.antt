use Rattle.std.proofs.Common.{◌≡◌, length}
use Rattle.problem_settings.specs.Entries.{entries}
use Rattle.problem_settings.specs.Sizes.{no_sizes, block_from, is_deeper}
use Rattle.problem_settings.specs.Views.{lines_at, below, HasSizes}
use Rattle.problem_settings.proofs.below.block.Given as goal

abbrev pub invariant-loop-left : goal.invariant-loop-left
invariant-loop-left l = record {
  said : block_from l.depth l.sizes (entries is_deeper (below (lines_at l.left))) ≡ block_from l.depth no_sizes (entries is_deeper (below (lines_at l.lines)));
  sound : HasSizes l.sizes;
}

abbrev pub decreases-loop-left : goal.decreases-loop-left
decreases-loop-left l = length (lines_at l.left)
