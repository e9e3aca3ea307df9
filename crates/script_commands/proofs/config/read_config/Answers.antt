use Rattle.std.proofs.Common.{rules}
use Rattle.script_commands.proofs.config.read_config.Goals as goal

pub returns-in-Err-TooLarge-clause-bad : goal.returns-in-Err-TooLarge-clause-bad
returns-in-Err-TooLarge-clause-bad c = search rules
