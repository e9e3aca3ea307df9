use Rattle.std.proofs.Common.{◌≡◌, ◌∙◌, sym, ap, subst, length, min}
use Rattle.judging_core.specs.Listed.{IsWantedUpTo}
use Rattle.judging_core.proofs.Vain.{wanted_lazily, wanted_in_full}
use Rattle.judging_core.proofs.open.wanted_up_to.Goals as goal

pub returns-in-Full-clause-wanted : goal.returns-in-Full-clause-wanted
returns-in-Full-clause-wanted c =
    let row = c.args.kept.now.row.cells in
    let size : length row ≡ c.len-tests.result = sym c.requires.marks ∙ sym c.len-tests.ensures in
    subst (IsWantedUpTo c.args.kept.now.row.rule c.args.kept.now.mode row) size (wanted_in_full c.args.kept.now.row.rule c.args.kept.now.mode row c.in-Full.is)

pub returns-in-Lazy-clause-wanted : goal.returns-in-Lazy-clause-wanted
returns-in-Lazy-clause-wanted c =
    let row = c.args.kept.now.row.cells in
    let size : length row ≡ c.len-tests.result = sym c.requires.marks ∙ sym c.len-tests.ensures in
    let last : min c.matters_up_to.result (length row) ≡ c.min.result = ap (min c.matters_up_to.result) size ∙ sym c.min.ensures in
    subst (IsWantedUpTo c.args.kept.now.row.rule c.args.kept.now.mode row) last
    (wanted_lazily c.args.kept.now.row.rule c.args.kept.now.mode row c.matters_up_to.result c.in-Lazy.is c.matters_up_to.ensures)
