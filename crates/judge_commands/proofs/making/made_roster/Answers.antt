use Rattle.std.proofs.Common.{rules}
use Rattle.judge_commands.proofs.making.made_roster.Goals as goal

pub returns : goal.returns
returns c = search rules

pub returns-in-Ok : goal.returns-in-Ok
returns-in-Ok c = search rules
