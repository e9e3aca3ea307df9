use Rattle.std.proofs.Common.{arith}
use Rattle.problem_settings.proofs.SkippedLemmas.{item_step}
use Rattle.problem_settings.proofs.skipped.push_items.Goals as goal

pub loop-left-preserved : goal.loop-left-preserved
loop-left-preserved c = grind (arith, item_step)
