use Rattle.std.proofs.Common.{arith}
use Rattle.std.proofs.lemmas.Grind.{common_steps}
use Rattle.problem_settings.proofs.bytes.trimmed.Goals as goal

pub loop-n-init : goal.loop-n-init
loop-n-init c = grind (arith, common_steps)

pub bounds-text-n : goal.bounds-text-n
bounds-text-n c = grind (arith, common_steps)

pub loop-n-preserved : goal.loop-n-preserved
loop-n-preserved c = grind (arith, common_steps)

pub slice_bounds-result-end : goal.slice_bounds-result-end
slice_bounds-result-end c = grind (arith, common_steps)

pub returns : goal.returns
returns c = grind (arith, common_steps)
