use Rattle.std.proofs.Common.{◌+◌, ◌%◌, ◌++◌, ◌∙◌, ap}
use Rattle.work_maker.specs.Made.{problem_by}
use Rattle.work_maker.specs.Files.{problem_files}
use Rattle.work_maker.proofs.Turns.{test_turn, draws_turn, tests_end}
use Rattle.work_maker.proofs.making.add_problem.Goals as goal

pub loop-at-preserved : goal.loop-at-preserved
loop-at-preserved c =
    let old = c.loop-at.draws.state in
    let new = c.draw-input.new.self.state in
    let stepped = c.draw-input.ensures.state in
    let input = ap (λ d. d % 1000) c.draw-input.ensures.drawn in (
      test_turn c.args.number (1 + c.draw.result % 5) c.loop-at.at old new _ _ _ c.loop-at-test.true stepped input c.in_ok-add_test.ensures ∙ c.loop-at.invariant.0,
      draws_turn (1 + c.draw.result % 5) c.loop-at.at old new c.loop-at-test.true stepped ∙ c.loop-at.invariant.1,
    )

pub returns-clause-files : goal.returns-clause-files
returns-clause-files c =
    let made = tests_end c.args.number (1 + c.draw.result % 5) c.loop-at.at c.loop-at.draws.state c.draw.new.self.state _ _ _ c.loop-at-test.false
    (ap (λ d. 1 + d % 5) c.draw.ensures.drawn) c.loop-at.invariant.0 c.in_ok-add_settings.ensures
    in
    made ∙ ap (λ s. c.args.files.now ++ problem_files (problem_by c.args.number s)) c.draw.ensures.state
