use Rattle.std.proofs.Common.{rules}
use Rattle.command_text.proofs.lines.named_event_of.Goals as goal

pub returns-clause-read : goal.returns-clause-read
returns-clause-read c = search rules
