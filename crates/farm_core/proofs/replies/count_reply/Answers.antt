use Rattle.std.proofs.Common.{rules}
use Rattle.farm_core.proofs.replies.count_reply.Goals as goal

pub returns-in-Repeat : goal.returns-in-Repeat
returns-in-Repeat c = search rules
