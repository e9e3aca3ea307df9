use Rattle.std.proofs.Common.{◌≡◌, rules, replicate, None}
use Rattle.lazy_stop.proofs.Putting.{row_empty}
use Rattle.lazy_stop.proofs.row.Row.new.Goals as goal

pub invariant_of-result : goal.invariant_of-result
invariant_of-result c =
    let is : c.in_ok-cells.cells ≡ replicate c.args.n None = search rules in
    row_empty _ _ c.args.n _ c.extremes_of-extremes.ensures is
