use Rattle.std.proofs.Common.{rules}
use Rattle.command_text.proofs.replies.final_line.Goals as goal

pub returns-in-Correct : goal.returns-in-Correct
returns-in-Correct c = search rules
