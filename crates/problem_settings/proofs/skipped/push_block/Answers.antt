use Rattle.std.proofs.Common.{arith}
use Rattle.problem_settings.proofs.SkippedLemmas.{block_step, block_end}
use Rattle.problem_settings.proofs.skipped.push_block.Goals as goal

pub loop-left-preserved : goal.loop-left-preserved
loop-left-preserved c = grind (arith, block_step, block_end)
