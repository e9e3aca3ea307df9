use Rattle.std.proofs.Common.{◌≡◌, take, map}
use Rattle.serde_json.specs.View.{view}
use Rattle.wire_json.specs.Objects.{whole}
use Rattle.wire_json.proofs.rows.rank_values.Given as goal

abbrev pub invariant-loop-rank : goal.invariant-loop-rank
invariant-loop-rank l = map view l.values.items ≡ map whole (take l.rank-index l.ranks)
