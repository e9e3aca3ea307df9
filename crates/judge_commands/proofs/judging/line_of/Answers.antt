use Rattle.std.proofs.Common.{rules}
use Rattle.judge_commands.proofs.judging.line_of.Goals as goal

pub returns : goal.returns
returns c = search rules
