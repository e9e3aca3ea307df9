use Rattle.std.proofs.Common.{rules}
use Rattle.script_commands.proofs.stored.exit_of.Goals as goal

pub returns-in-StoreFull : goal.returns-in-StoreFull
returns-in-StoreFull c = search rules
