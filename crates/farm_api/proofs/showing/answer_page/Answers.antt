use Rattle.std.proofs.Common.{refl, arith}
use Rattle.farm_api.proofs.OneAnswer.{put_page, no_page}
use Rattle.farm_api.proofs.showing.answer_page.Goals as goal

pub returns-in-Board-clause-puts : goal.returns-in-Board-clause-puts
returns-in-Board-clause-puts g c =
    put_page g.A.Replier.steps (g.A.Replier.gives c.args.replier.now) c.args.closing c.args.moment _ _ c.in-Board.rows _ _ c.put_page.result c.in-Board.ensures.steps
    (rw c.contest.ensures at c.put_page.ensures.writes)

pub returns : goal.returns
returns g c =
    let left = c.look.ensures.left in
    record {
      puts = no_page g.A.Replier.steps (g.A.Replier.gives c.args.replier.now) c.args.closing c.args.moment _ _ c.look.result _ c.look.ensures.steps;
      cause = record { later = omega arith; failed = λ is. absurd (cc is); kept = λ _. refl };
      beside = refl;
      left = omega (arith, left);
      suits = c.look.ensures.suits;
    }
