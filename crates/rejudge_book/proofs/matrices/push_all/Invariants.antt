use Rattle.std.proofs.Common.{◌≡◌, ◌++◌, drop}
use Rattle.std.specs.List.{flat_map}
use Rattle.rejudge_book.specs.Counts.{matrix_rows_of}
use Rattle.rejudge_book.proofs.matrices.push_all.Given as goal

abbrev pub invariant-loop-old : goal.invariant-loop-old
invariant-loop-old l = l.rows ++ flat_map (matrix_rows_of l.counts l.answers) (drop l.old-index l.answers) ≡ l.fn.rows ++ flat_map (matrix_rows_of l.fn.counts l.fn.answers) l.fn.answers
