use Rattle.std.proofs.Common.{◌≡◌, take, map}
use Rattle.serde_json.specs.View.{view}
use Rattle.wire_json.specs.Replies.{matrix_row}
use Rattle.wire_json.proofs.rows.matrix_rows.Given as goal

abbrev pub invariant-loop-row : goal.invariant-loop-row
invariant-loop-row l = map view l.rows.items ≡ map matrix_row (take l.row-index l.matrix)
