use Rattle.std.proofs.Common.{refl}
use Rattle.std.specs.Fmt.{digits}
use Rattle.farm_model.specs.Matrix.{matrix_of}
use Rattle.farm_model.proofs.rejudgings.rows_of_a_matrix.Goals as goal

pub returns : goal.returns
unfolding digits matrix_of
returns c = refl
