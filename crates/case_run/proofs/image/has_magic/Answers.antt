use Rattle.std.proofs.Common.{arith}
use Rattle.std.proofs.lemmas.Grind.{common_steps}
use Rattle.case_run.proofs.image.has_magic.Goals as goal

pub returns-else-bytes-eq76 : goal.returns-else-bytes-eq76
returns-else-bytes-eq76 c = grind (arith, common_steps)
