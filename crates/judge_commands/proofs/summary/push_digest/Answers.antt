use Rattle.std.proofs.Common.{arith}
use Rattle.std.proofs.lemmas.Grind.{common_steps}
use Rattle.judge_commands.proofs.summary.push_digest.Goals as goal

pub returns : goal.returns
returns c = grind (arith, common_steps)
