use Rattle.std.proofs.Common.{Some, sym, ap, ◌∙◌}
use Rattle.farm_tree.proofs.Places.{found_there, not_found}
use Rattle.farm_tree.proofs.memory.bytes_at.Goals as goal

pub returns-in_err-at : goal.returns-in_err-at
returns-in_err-at c = rw c.from_residual.ensures (sym (not_found c.args.path.now c.args.files.now c.in_err-at.ensures))

pub returns : goal.returns
returns c =
    ap Some c.as_slice.ensures
    ∙ sym (found_there c.args.path.now c.args.files.now c.in_ok-at.at c.index-files-at.result c.in_ok-at.ensures)
