use Rattle.std.proofs.Common.{arith}
use Rattle.rv_memory.proofs.Paging.{zero_pushed}
use Rattle.rv_memory.proofs.index.extend_with_zeros.Goals as goal

pub loop-k-preserved : goal.loop-k-preserved
loop-k-preserved c = grind (arith, zero_pushed)
