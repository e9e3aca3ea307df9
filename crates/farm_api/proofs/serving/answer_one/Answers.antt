use Rattle.std.proofs.Common.{refl}
use Rattle.farm_api.specs.Exchanges.{around_of, giving}
use Rattle.farm_api.proofs.OneAnswer.{one_answered, one_unread}
use Rattle.farm_api.proofs.Turning.{how_kept}
use Rattle.farm_api.proofs.serving.answer_one.Goals as goal

pub returns-in-Err-clause-puts : goal.returns-in-Err-clause-puts
returns-in-Err-clause-puts g c asks may =
    one_unread g.A.Replier.steps (giving (g.A.Replier.gives c.args.replier.now) (around_of (g.C.Clock.shows c.args.clock.now) asks)) c.now-moment.result _ _ _ c.now-moment.ensures

pub returns-in-Ok-clause-puts : goal.returns-in-Ok-clause-puts
returns-in-Ok-clause-puts g c asks may =
    rw (c.how_after.ensures, c.close_or.ensures)
    (one_answered g.A.Replier.steps (giving (g.A.Replier.gives c.args.replier.now) (around_of (g.C.Clock.shows c.args.clock.now) asks)) c.args.head.now.close c.args.closing c.now-moment.result _ _ _ c.in-Ok.asked _ _ c.answer_asked-written.result c.now-moment.ensures may c.in-Ok.ensures.asked refl c.answer_asked-written.ensures.puts)

pub returns-in-Ok-clause-kept : goal.returns-in-Ok-clause-kept
returns-in-Ok-clause-kept g c = how_kept c.answer_asked-written.result _ _ _ _ c.how_after.ensures c.answer_asked-written.ensures.cause
