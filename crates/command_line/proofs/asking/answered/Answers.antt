use Rattle.std.proofs.Common.{rules}
use Rattle.command_line.proofs.asking.answered.Goals as goal

pub returns-in_ok-refusal-in_default : goal.returns-in_ok-refusal-in_default
returns-in_ok-refusal-in_default c = search rules
