use Rattle.std.proofs.Common.{arith}
use Rattle.std.proofs.lemmas.Grind.{common_steps}
use Rattle.judging_core.proofs.judge.Judge.result.Goals as goal

pub count-requires-clause-known : goal.count-requires-clause-known
count-requires-clause-known c = grind (arith, common_steps)
