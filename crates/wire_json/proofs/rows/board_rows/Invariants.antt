use Rattle.std.proofs.Common.{◌≡◌, take, map}
use Rattle.serde_json.specs.View.{view}
use Rattle.wire_json.specs.Replies.{board_rows}
use Rattle.wire_json.proofs.rows.board_rows.Given as goal

abbrev pub invariant-loop-i : goal.invariant-loop-i
invariant-loop-i l = map view l.rows.items ≡ board_rows 1 (take l.i l.answers)
