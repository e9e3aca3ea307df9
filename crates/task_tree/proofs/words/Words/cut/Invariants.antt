use Rattle.task_tree.proofs.Bitwise.{IsCutTo}
use Rattle.task_tree.proofs.words.Words.cut.Given as goal

abbrev pub invariant-loop-place : goal.invariant-loop-place
invariant-loop-place l = IsCutTo l.fn.self l.self-inside.words.items l.from l.place
