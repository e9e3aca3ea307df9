use Rattle.std.proofs.Common.{sym, ◌∙◌, subst}
use Rattle.farm_api.specs.Jobs.{IsJobText}
use Rattle.farm_api.proofs.OneAnswer.{job_refused, job_text_given, no_job_given}
use Rattle.farm_api.proofs.jobs.put_job.Goals as goal

pub returns-in-None-clause-puts : goal.returns-in-None-clause-puts
returns-in-None-clause-puts g c =
    job_refused (g.A.Replier.gives c.args.replier.now) c.args.closing c.args.part c.args.judging c.args.test c.args.reply.now _ _ c.answer_reply.result
    (sym c.owner_in.ensures ∙ c.in-None.is) c.answer_reply.ensures.writes

pub returns-in-Ok-None-clause-puts : goal.returns-in-Ok-None-clause-puts
returns-in-Ok-None-clause-puts g c =
    let gives = g.A.Replier.gives c.args.replier.now in
    let given = subst (λ text. IsJobText (gives.case c.in-Some.submission c.args.test) c.args.part c.args.judging c.args.test text) c.in-Ok-None.field-0-is c.in-Ok-None.ensures in
    no_job_given gives c.args.closing c.args.part c.args.judging c.args.test c.in-Some.submission c.args.reply.now _ _ c.write_response.result
    (sym c.owner_in.ensures ∙ c.in-Some.is) given c.write_response.ensures.writes

pub returns-in-Ok-Some-clause-puts : goal.returns-in-Ok-Some-clause-puts
returns-in-Ok-Some-clause-puts g c =
    let gives = g.A.Replier.gives c.args.replier.now in
    let given = subst (λ text. IsJobText (gives.case c.in-Some.submission c.args.test) c.args.part c.args.judging c.args.test text) c.in-Ok-Some.field-0-is c.in-Ok-Some.ensures in
    job_text_given gives c.args.closing c.args.part c.args.judging c.args.test c.in-Some.submission _ c.args.reply.now _ _ c.write_response-in-Ok-Some.result
    (sym c.owner_in.ensures ∙ c.in-Some.is) given (rw c.as_slice.ensures at c.write_response-in-Ok-Some.ensures.writes)
