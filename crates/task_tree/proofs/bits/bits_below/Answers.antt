use Rattle.std.proofs.Common.{◌%◌, ◌∙◌, ap}
use Rattle.std.specs.Int.{bit_at}
use Rattle.std.proofs.lemmas.Nat.{one_shl}
use Rattle.task_tree.proofs.Bitwise.{low_kept, high_cleared}
use Rattle.task_tree.proofs.bits.bits_below.Goals as goal

pub returns-clause-below : goal.returns-clause-below
returns-clause-below c = λ i l.
    ap (λ n. bit_at (c.args.word % n) i) (one_shl c.args.place 64 c.requires) ∙ low_kept c.args.word c.args.place i l

pub returns-clause-above : goal.returns-clause-above
returns-clause-above c = λ i l.
    ap (λ n. bit_at (c.args.word % n) i) (one_shl c.args.place 64 c.requires) ∙ high_cleared c.args.word c.args.place i l
