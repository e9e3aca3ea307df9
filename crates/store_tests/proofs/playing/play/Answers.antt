use Rattle.std.proofs.Common.{Bool, IsTrue, subst}
use Rattle.script_session.proofs.Storings.{ready_rests}
use Rattle.store_tests.proofs.playing.play.Goals as goal

pub run_stored-requires-clause-stands : goal.run_stored-requires-clause-stands
run_stored-requires-clause-stands g c told =
    ready_rests _ _ _ (c.in-Ok.ensures.opened (subst (λ (b : Bool). IsTrue b) c.open.ensures.tells told)).1
