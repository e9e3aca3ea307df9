use Rattle.std.proofs.Common.{refl}
use Rattle.std.specs.Fmt.{digits}
use Rattle.farm_model.proofs.worked.batch_of_one_judging.Goals as goal

pub returns : goal.returns
unfolding digits
returns c = refl
