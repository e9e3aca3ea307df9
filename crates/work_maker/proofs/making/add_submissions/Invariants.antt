use Rattle.std.proofs.Common.{◌≡◌, ◌++◌}
use Rattle.work_maker.proofs.Turns.{images_left, lines_left}
use Rattle.work_maker.proofs.making.add_submissions.Given as goal

abbrev pub invariant-loop-at : goal.invariant-loop-at
invariant-loop-at l =
    (l.files ++ images_left l.problems l.submissions l.at l.draws.state ≡ l.initial.files ++ images_left l.problems l.submissions 0 l.initial.draws.state)
    × (l.list.items ++ lines_left l.problems l.submissions l.at l.draws.state ≡ lines_left l.problems l.submissions 0 l.initial.draws.state)
