use Rattle.std.proofs.Common.{rules}
use Rattle.command_line.proofs.checks.is_plain.Goals as goal

pub returns-in-None : goal.returns-in-None
returns-in-None c = search rules
