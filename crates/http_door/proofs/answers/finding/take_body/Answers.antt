use Rattle.std.proofs.Common.{refl, ap, arith, length}
use Rattle.std.proofs.lemmas.Grind.{common_steps}
use Rattle.http_door.proofs.Windows.{Fills-refl, Fills-more, Fills-trans}
use Rattle.http_door.proofs.AnswerCauses.{stopped_cause}
use Rattle.http_door.proofs.AnswerFindings.{no_memory, shown_whole, shown_more_whole}
use Rattle.http_door.proofs.answers.finding.take_body.Goals as goal

pub returns-then-ahead-need-clause-fills : goal.returns-then-ahead-need-clause-fills
returns-then-ahead-need-clause-fills g c = Fills-refl _ _

pub returns-then-ahead-need-clause-ok : goal.returns-then-ahead-need-clause-ok
returns-then-ahead-need-clause-ok g c = shown_whole _ _ _ c.requires.shows (omega (arith, c.if-ahead-need.true, ap length c.ahead.ensures))

pub returns-in-Err-clause-fills : goal.returns-in-Err-clause-fills
returns-in-Err-clause-fills g c = Fills-more _ _ _ c.grow.ensures.ahead c.grow.ensures.taken c.grow.ensures.more

pub returns-in-Err-clause-err : goal.returns-in-Err-clause-err
returns-in-Err-clause-err g c = no_memory _ _

pub returns-in-Some-clause-fills : goal.returns-in-Some-clause-fills
returns-in-Some-clause-fills g c =
    Fills-trans _ _ _ _ _ _ (Fills-more _ _ _ c.grow.ensures.ahead c.grow.ensures.taken c.grow.ensures.more) c.wait_for.ensures.fills

pub returns-clause-fills : goal.returns-clause-fills
returns-clause-fills g c =
    Fills-trans _ _ _ _ _ _ (Fills-more _ _ _ c.grow.ensures.ahead c.grow.ensures.taken c.grow.ensures.more) c.wait_for.ensures.fills

pub returns-clause-ok : goal.returns-clause-ok
returns-clause-ok g c =
    let f = Fills-trans _ _ _ c.args.window.now _ c.wait_for.new.window (Fills-more (g.S.Source.left c.args.source.now) _ _ c.grow.ensures.ahead c.grow.ensures.taken c.grow.ensures.more) c.wait_for.ensures.fills in
    shown_more_whole _ f.prefix _ c.args.seen c.args.len f.whole c.requires.shows (c.in_default-wait_for.ensures.whole refl)

pub returns-in-Err-clause-held : goal.returns-in-Err-clause-held
returns-in-Err-clause-held g c = λ q. absurd (omega (arith, q, c.if-ahead-need.false, ap length c.ahead.ensures))

pub returns-in-Some-clause-held : goal.returns-in-Some-clause-held
returns-in-Some-clause-held g c = λ q. absurd (omega (arith, q, c.if-ahead-need.false, ap length c.ahead.ensures))

pub returns-clause-held : goal.returns-clause-held
returns-clause-held g c = λ q. absurd (omega (arith, q, c.if-ahead-need.false, ap length c.ahead.ensures))

pub ended_by-requires : goal.ended_by-requires
ended_by-requires g c = grind (arith, common_steps)

pub returns-in-Some-clause-err : goal.returns-in-Some-clause-err
returns-in-Some-clause-err g c = grind (arith, common_steps)

pub returns-in-Some-clause-cause : goal.returns-in-Some-clause-cause
returns-in-Some-clause-cause g c = rw c.ended_by.ensures (stopped_cause _ _ _ c.in-Some.stop refl c.in-Some.ensures.cause)
