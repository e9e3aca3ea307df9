use Rattle.std.proofs.Common.{arith}
use Rattle.std.proofs.lemmas.Grind.{common_steps}
use Rattle.command_text.proofs.lines.event_of.Goals as goal

pub returns-in-64-clause-read : goal.returns-in-64-clause-read
returns-in-64-clause-read c = grind (arith, common_steps)

pub returns-in-64-clause-wanted : goal.returns-in-64-clause-wanted
returns-in-64-clause-wanted c = grind (arith, common_steps)
