use Rattle.std.proofs.Common.{refl}
use Rattle.std.specs.Fmt.{digits}
use Rattle.farm_model.proofs.worked.asked_judgings.Goals as goal

pub returns-clause-dropped : goal.returns-clause-dropped
unfolding digits
returns-clause-dropped c = refl

pub returns-clause-logged : goal.returns-clause-logged
unfolding digits
returns-clause-logged c = refl
