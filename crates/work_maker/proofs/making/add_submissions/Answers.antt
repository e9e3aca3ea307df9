use Rattle.std.proofs.Common.{◌∙◌}
use Rattle.work_maker.specs.Made.{submission_value}
use Rattle.work_maker.proofs.Turns.{image_turn, line_turn}
use Rattle.work_maker.proofs.making.add_submissions.Goals as goal

pub loop-at-preserved : goal.loop-at-preserved
loop-at-preserved c =
    let old = c.loop-at.draws.state in
    let drew = c.draw_submission-submission in
    let made = submission_value drew.result in (
      image_turn c.args.problems c.args.submissions c.loop-at.at old drew.new.draws.state made _ _ c.loop-at-test.true drew.ensures.draws drew.ensures.submission c.in_ok-add_image.ensures ∙ c.loop-at.invariant.0,
      line_turn c.args.problems c.args.submissions c.loop-at.at old drew.new.draws.state made _ _ c.loop-at-test.true drew.ensures.draws drew.ensures.submission c.in_ok-push_line.ensures ∙ c.loop-at.invariant.1,
    )
