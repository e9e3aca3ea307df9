use Rattle.std.proofs.Common.{arith}
use Rattle.std.proofs.lemmas.Grind.{common_steps}
use Rattle.command_text.proofs.replies.push_lines.Goals as goal

pub returns-in_ok-push_text-in_default : goal.returns-in_ok-push_text-in_default
returns-in_ok-push_text-in_default c = grind (arith, common_steps)
