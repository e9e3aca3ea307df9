use Rattle.std.proofs.Common.{◌∙◌}
use Rattle.work_maker.proofs.Turns.{problem_turn, state_turn}
use Rattle.work_maker.proofs.making.add_problems.Goals as goal

pub loop-at-preserved : goal.loop-at-preserved
loop-at-preserved c =
    let old = c.loop-at.draws.state in
    let new = c.add_problem.new.draws.state in (
      problem_turn c.args.problems c.loop-at.at old new _ _ c.loop-at-test.true c.in_ok-add_problem.ensures.draws c.in_ok-add_problem.ensures.files ∙ c.loop-at.invariant.0,
      state_turn c.args.problems c.loop-at.at old new c.loop-at-test.true c.in_ok-add_problem.ensures.draws ∙ c.loop-at.invariant.1,
    )
