use Rattle.std.proofs.Common.{refl}
use Rattle.std.specs.Fmt.{digits}
use Rattle.farm_model.proofs.worked.batches.Goals as goal

pub returns : goal.returns
unfolding digits
returns c = refl
