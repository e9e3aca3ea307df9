use Rattle.std.proofs.Common.{arith}
use Rattle.std.proofs.lemmas.Grind.{common_steps}
use Rattle.rv_memory.proofs.recent.make_recent.Goals as goal

pub returns-in_ok-recent : goal.returns-in_ok-recent
returns-in_ok-recent c = grind (arith, common_steps)
