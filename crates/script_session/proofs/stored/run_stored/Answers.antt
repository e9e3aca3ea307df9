use Rattle.script_session.proofs.Keepings.{wrote_more}
use Rattle.script_session.proofs.Storings.{keeps_none}
use Rattle.script_session.proofs.Endings.{ends_leaves, ends_room, ends_rests}
use Rattle.script_session.proofs.stored.run_stored.Goals as goal

pub run_session-requires-clause-begins : goal.run_session-requires-clause-begins
run_session-requires-clause-begins g c = keeps_none _ c.args.farm.now (record { fresh = c.requires.fresh; rests = c.requires.stands })

pub returns-clause-stored : goal.returns-clause-stored
returns-clause-stored g c told =
    wrote_more _ _ _ _ (λ least all h. ends_leaves _ _ c.args.farm.now least all c.run_session.result h told) c.run_session.ensures.keeps

pub returns-clause-room : goal.returns-clause-room
returns-clause-room g c = wrote_more _ _ _ _ (λ least all h. ends_room _ _ c.args.farm.now least all c.run_session.result h) c.run_session.ensures.keeps

pub returns-clause-stands : goal.returns-clause-stands
returns-clause-stands g c told other = ends_rests _ _ c.args.farm.now _ _ c.run_session.result c.run_session.ensures.keeps.holds told other
