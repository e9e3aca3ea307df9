use Rattle.std.proofs.Common.{◌≡◌, ◌∙◌, rules}
use Rattle.lazy_stop.proofs.ClosedForms.{deciding_kind}
use Rattle.lazy_stop.proofs.Answering.{deciding_kind_is, settled_if}
use Rattle.lazy_stop.proofs.row.deciding_kind.Goals as goal

pub returns-in-None : goal.returns-in-None
returns-in-None c =
    let is : c.args.extremes.greatest ≡ deciding_kind c.args.extremes c.args.best = search rules in
    λ rule cells first_empty v row l all. is ∙ deciding_kind_is rule c.args.extremes c.args.best first_empty cells v row l (settled_if rule cells v all)

pub returns-in-Some : goal.returns-in-Some
returns-in-Some c =
    let is : c.in-Some.best.kind ≡ deciding_kind c.args.extremes c.args.best = search rules in
    λ rule cells first_empty v row l all. is ∙ deciding_kind_is rule c.args.extremes c.args.best first_empty cells v row l (settled_if rule cells v all)
