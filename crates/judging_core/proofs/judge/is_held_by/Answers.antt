use Rattle.std.proofs.Common.{rules}
use Rattle.judging_core.proofs.judge.is_held_by.Goals as goal

pub returns-in-Some : goal.returns-in-Some
returns-in-Some c = search rules
