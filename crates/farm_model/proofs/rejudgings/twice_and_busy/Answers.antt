use Rattle.std.proofs.Common.{refl}
use Rattle.std.specs.Fmt.{digits}
use Rattle.farm_model.proofs.rejudgings.twice_and_busy.Goals as goal

pub returns-clause-first : goal.returns-clause-first
returns-clause-first c = refl

pub returns-clause-order : goal.returns-clause-order
unfolding digits
returns-clause-order c = refl
