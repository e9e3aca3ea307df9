use Rattle.std.proofs.Common.{◌≡◌, ◌++◌, length}
use Rattle.problem_settings.specs.Entries.{entries}
use Rattle.problem_settings.specs.Sizes.{is_deeper}
use Rattle.problem_settings.specs.Skipped.{block_skipped}
use Rattle.problem_settings.specs.Views.{below, lines_at}
use Rattle.problem_settings.proofs.skipped.push_block.Given as goal

abbrev pub invariant-loop-left : goal.invariant-loop-left
invariant-loop-left l =
    l.keys.items ++ block_skipped (entries is_deeper (below (lines_at l.left)))
    ≡ l.initial.keys.items ++ block_skipped (entries is_deeper (below (lines_at l.lines)))

abbrev pub decreases-loop-left : goal.decreases-loop-left
decreases-loop-left l = length (lines_at l.left)
