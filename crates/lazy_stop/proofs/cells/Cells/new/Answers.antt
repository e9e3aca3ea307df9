use Rattle.std.proofs.Common.{◌≡◌, ◌∙◌, ap, replicate, rules}
use Rattle.lazy_stop.specs.declared.cells.Cell.TheVariants.{Empty}
use Rattle.lazy_stop.specs.CellKinds.{kinds_in}
use Rattle.lazy_stop.proofs.CellLists.{all_empty}
use Rattle.lazy_stop.proofs.cells.Cells.new.Goals as goal

pub returns : goal.returns
returns c =
    let is : c.in_ok-cells.cells.items ≡ replicate c.args.count Empty = search rules in
    ap kinds_in is ∙ all_empty c.args.count
