use Rattle.std.proofs.Common.{rules}
use Rattle.farm_api.proofs.calling.BoardReplierReplier.step.Goals as goal

pub returns-clause-left : goal.returns-clause-left
returns-clause-left c = search rules

pub returns-clause-steps : goal.returns-clause-steps
returns-clause-steps c = search rules
