use Rattle.std.proofs.Common.{rules}
use Rattle.judge_commands.proofs.summary.count_of.Goals as goal

pub returns : goal.returns
returns c = search rules
