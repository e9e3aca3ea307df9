use Rattle.std.proofs.Common.{rules}
use Rattle.command_line.proofs.checks.is_value.Goals as goal

pub returns-in-empty : goal.returns-in-empty
returns-in-empty c = search rules
