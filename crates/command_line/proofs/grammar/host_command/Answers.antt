use Rattle.std.proofs.Common.{arith}
use Rattle.std.proofs.lemmas.Grind.{common_steps}
use Rattle.command_line.proofs.grammar.host_command.Goals as goal

pub returns-clause-app : goal.returns-clause-app
returns-clause-app c = grind (arith, common_steps)
