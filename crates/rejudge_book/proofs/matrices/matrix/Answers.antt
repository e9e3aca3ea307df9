use Rattle.std.proofs.Common.{List, ◌++◌, ap, ◌∙◌}
use Rattle.std.specs.List.{flat_map}
use Rattle.farm_kinds.specs.declared.outcomes.MatrixRow.{MatrixRow}
use Rattle.farm_model.specs.Matrix.{every_answer}
use Rattle.rejudge_book.specs.Counts.{matrix_rows_of}
use Rattle.rejudge_book.proofs.Counts.{matrix_is}
use Rattle.rejudge_book.proofs.matrices.matrix.Goals as goal

pub returns : goal.returns
returns c =
    c.in_ok-push_all.ensures
    ∙ (ap (λ (rows : List MatrixRow). rows ++ flat_map (matrix_rows_of c.pair_counts-counts.result every_answer) every_answer) c.new-rows.ensures
    ∙ matrix_is c.pair_counts-counts.result c.args.pairs.now c.pair_counts-counts.ensures)
