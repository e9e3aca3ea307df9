use Rattle.std.proofs.Common.{rules}
use Rattle.farm_core.proofs.Refusing.{all_known}
use Rattle.farm_core.proofs.contest.ContestState.list_refusal.Goals as goal

pub returns-clause-known : goal.returns-clause-known
returns-clause-known c = all_known c.args.self.now c.args.list.now (search rules)
