use Rattle.std.proofs.Common.{take}
use Rattle.rejudge_book.specs.Counts.{AreCounts}
use Rattle.rejudge_book.proofs.matrices.pair_counts.Given as goal

abbrev pub invariant-loop-old : goal.invariant-loop-old
invariant-loop-old l = AreCounts l.counts (take l.old-index l.pairs)
