use Rattle.std.proofs.Common.{◌≡◌, ◌++◌, ◌-◌}
use Rattle.work_maker.specs.Made.{after_problems}
use Rattle.work_maker.proofs.Turns.{problems_left}
use Rattle.work_maker.proofs.making.add_problems.Given as goal

abbrev pub invariant-loop-at : goal.invariant-loop-at
invariant-loop-at l =
    (l.files ++ problems_left l.problems l.at l.draws.state ≡ l.initial.files ++ problems_left l.problems 0 l.initial.draws.state)
    × (after_problems (l.problems - l.at) l.draws.state ≡ after_problems l.problems l.initial.draws.state)
