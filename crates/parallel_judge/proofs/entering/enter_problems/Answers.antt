use Rattle.std.proofs.Common.{◌++◌, ◌∷◌, [], List, map, take, sym, ap, ◌∙◌, subst, arith, append_assoc}
use Rattle.std.proofs.lemmas.Grind.{common_steps}
use Rattle.farm_kinds.specs.declared.events.Event.{Event}
use Rattle.farm_kinds.specs.declared.events.Event.TheVariants as event
use Rattle.parallel_judge.specs.Entering.{problem_event}
use Rattle.parallel_judge.specs.Hosts.{HasEntered}
use Rattle.parallel_judge.specs.Table.{named_problem}
use Rattle.parallel_judge.proofs.Rosters.{problem_events}
use Rattle.parallel_judge.proofs.entering.enter_problems.Goals as goal

pub loop-i-preserved : goal.loop-i-preserved
loop-i-preserved g c =
    let problems = c.args.roster.now.problems in
    let more = problem_events problems c.loop-i.i c.jury.result c.problem-name.result c.jury.ensures c.problem-name.ensures in
    let one = c.enter.ensures.left in
    let before_left = c.loop-i.invariant.left in
    record {
      entered = λ start before o h.
          subst (λ (es : List Event). HasEntered start es c.enter.new.pass)
          (append_assoc before (map problem_event (map named_problem (take c.loop-i.i problems))) (event.Problem c.jury.result c.problem-name.result.name c.problem-name.result.tests ∷ [])
          ∙ ap (λ (es : List Event). before ++ es) (sym more))
          (c.in_ok-enter.ensures.entered start (before ++ map problem_event (map named_problem (take c.loop-i.i problems))) o (c.loop-i.invariant.entered start before o h));
      left = omega (arith, one, before_left);
      board = c.enter.ensures.board ∙ c.loop-i.invariant.board;
      spare = c.enter.ensures.spare ∙ c.loop-i.invariant.spare;
    }

pub returns-clause-entered : goal.returns-clause-entered
returns-clause-entered g c = grind (arith, common_steps)
