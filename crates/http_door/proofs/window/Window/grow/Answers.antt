use Rattle.std.proofs.Common.{arith}
use Rattle.std.proofs.lemmas.Grind.{common_steps}
use Rattle.http_door.proofs.window.Window.grow.Goals as goal

pub returns-in_err-lengthen-clause-ahead : goal.returns-in_err-lengthen-clause-ahead
returns-in_err-lengthen-clause-ahead c = grind (arith, common_steps)
