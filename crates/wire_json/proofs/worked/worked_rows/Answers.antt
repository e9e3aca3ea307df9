use Rattle.std.proofs.Common.{refl}
use Rattle.std.specs.Fmt.{digits}
use Rattle.serde_json.proofs.OnLiterals.{serde_json_on_literals}
use Rattle.wire_json.proofs.worked.worked_rows.Goals as goal

pub returns-clause-board : goal.returns-clause-board
unfolding serde_json_on_literals digits
returns-clause-board c = refl

pub returns-clause-no_rows : goal.returns-clause-no_rows
unfolding serde_json_on_literals digits
returns-clause-no_rows c = refl

pub returns-clause-matrix : goal.returns-clause-matrix
unfolding serde_json_on_literals digits
returns-clause-matrix c = refl
