use Rattle.std.proofs.Common.{◌++◌, ◌∷◌, [], List, map, take, sym, ap, ◌∙◌, subst, arith, append_assoc}
use Rattle.std.proofs.lemmas.Grind.{common_steps}
use Rattle.farm_kinds.specs.declared.outcomes.Class.TheVariants.{Normal}
use Rattle.farm_kinds.specs.declared.events.Event.{Event}
use Rattle.farm_kinds.specs.declared.events.Event.TheVariants as event
use Rattle.parallel_judge.specs.Entering.{submission_event}
use Rattle.parallel_judge.specs.Hosts.{HasEntered}
use Rattle.parallel_judge.specs.Table.{named_submission}
use Rattle.parallel_judge.proofs.Rosters.{submission_events}
use Rattle.parallel_judge.proofs.entering.enter_submissions.Goals as goal

pub loop-i-preserved : goal.loop-i-preserved
loop-i-preserved g c =
    let submissions = c.args.roster.now.submissions in
    let more = submission_events submissions c.loop-i.i c.submission-problem.result c.submission-problem.ensures in
    let one = c.enter.ensures.left in
    let before_left = c.loop-i.invariant.left in
    record {
      entered = λ start before o h.
          subst (λ (es : List Event). HasEntered start es c.enter.new.pass)
          (append_assoc before (map submission_event (map named_submission (take c.loop-i.i submissions))) (event.Submit c.submission-problem.result.problem Normal c.submission-problem.result.broken ∷ [])
          ∙ ap (λ (es : List Event). before ++ es) (sym more))
          (c.in_ok-enter.ensures.entered start (before ++ map submission_event (map named_submission (take c.loop-i.i submissions))) o (c.loop-i.invariant.entered start before o h));
      left = omega (arith, one, before_left);
      board = c.enter.ensures.board ∙ c.loop-i.invariant.board;
      spare = c.enter.ensures.spare ∙ c.loop-i.invariant.spare;
    }

pub returns-clause-entered : goal.returns-clause-entered
returns-clause-entered g c = grind (arith, common_steps)
