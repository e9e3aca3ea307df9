use Rattle.std.proofs.Common.{◌≡◌, ◌++◌, ◌-◌}
use Rattle.work_maker.specs.Draws.{after}
use Rattle.work_maker.proofs.Turns.{tests_left}
use Rattle.work_maker.proofs.making.add_problem.Given as goal

abbrev pub invariant-loop-at : goal.invariant-loop-at
invariant-loop-at l =
    (l.files ++ tests_left l.number l.tests l.at l.draws.state ≡ l.initial.files ++ tests_left l.number l.tests 0 l.initial.draws.state)
    × (after (l.tests - l.at) l.draws.state ≡ after l.tests l.initial.draws.state)
