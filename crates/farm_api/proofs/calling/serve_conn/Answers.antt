use Rattle.farm_api.proofs.Completeness.{answers_all}
use Rattle.farm_api.proofs.PassLemmas.{served_calls}
use Rattle.farm_api.proofs.calling.serve_conn.Goals as goal

pub returns-clause-served : goal.returns-clause-served
returns-clause-served g c =
    rw (c.finish.ensures.left, c.finish.ensures.held) (served_calls _ _ _ _ _ c.serve_on-end.ensures.served)

pub returns-clause-cause : goal.returns-clause-cause
returns-clause-cause g c = rw (c.finish.ensures.reads, c.finish.ensures.writes) c.serve_on-end.ensures.cause

pub returns-clause-complete : goal.returns-clause-complete
returns-clause-complete g c =
    rw (c.finish.ensures.reads, c.finish.ensures.writes)
    (answers_all _ _ _ _ _ _ _ _ _ _ _ _ _ _ c.serve_on-end.ensures.served c.serve_on-end.ensures.cause)
