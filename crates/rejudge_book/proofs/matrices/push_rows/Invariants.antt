use Rattle.std.proofs.Common.{◌≡◌, ◌++◌, drop}
use Rattle.rejudge_book.specs.Counts.{matrix_rows_of}
use Rattle.rejudge_book.proofs.matrices.push_rows.Given as goal

abbrev pub invariant-loop-new : goal.invariant-loop-new
invariant-loop-new l = l.rows ++ matrix_rows_of l.counts (drop l.new-index l.answers) l.old ≡ l.fn.rows ++ matrix_rows_of l.fn.counts l.fn.answers l.fn.old
