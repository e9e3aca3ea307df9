use Rattle.std.proofs.Common.{rules, arith}
use Rattle.std.proofs.lemmas.List.{same_lists}
use Rattle.public_board.proofs.row.same_rows.Goals as goal

pub returns-clause-same : goal.returns-clause-same
returns-clause-same g c =
    let past = c.loop-i-test.false in same_lists _ _ (search rules) (λ k d h. c.loop-i.invariant k d (omega arith))
