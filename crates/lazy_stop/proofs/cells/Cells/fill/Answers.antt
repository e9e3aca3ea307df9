use Rattle.std.proofs.Common.{◌∙◌, ap, set, Option, Some}
use Rattle.std.proofs.lemmas.List.{map-set}
use Rattle.farm_kinds.specs.declared.kinds.Kind.{Kind}
use Rattle.lazy_stop.specs.CellKinds.{kind_in, kinds_in}
use Rattle.lazy_stop.proofs.cells.Cells.fill.Goals as goal

pub returns : goal.returns
returns c =
    map-set kind_in c.self.inside.cells.items c.args.at c.filled.result
    ∙ ap (λ (cell : Option Kind). set (kinds_in c.self.inside.cells.items) c.args.at cell) c.filled.ensures
    ∙ ap (λ cells. set cells c.args.at (Some c.args.kind)) c.self.view_is
