use Rattle.std.proofs.Common.{rules}
use Rattle.farm_core.proofs.contest.ContestState.public.Goals as goal

pub returns : goal.returns
returns c = search rules
