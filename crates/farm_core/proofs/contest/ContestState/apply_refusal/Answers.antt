use Rattle.std.proofs.Common.{rules}
use Rattle.farm_core.proofs.contest.ContestState.apply_refusal.Goals as goal

pub returns-in_err-judging-clause-refusal : goal.returns-in_err-judging-clause-refusal
returns-in_err-judging-clause-refusal c = search rules
