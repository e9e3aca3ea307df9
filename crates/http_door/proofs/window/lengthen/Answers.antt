use Rattle.std.proofs.Common.{arith}
use Rattle.std.proofs.lemmas.Grind.{common_steps}
use Rattle.http_door.proofs.window.lengthen.Goals as goal

pub returns-in_err-reserve_exact-clause-prefix : goal.returns-in_err-reserve_exact-clause-prefix
returns-in_err-reserve_exact-clause-prefix c = grind (arith, common_steps)

pub returns-clause-prefix : goal.returns-clause-prefix
returns-clause-prefix c = grind (arith, common_steps)
