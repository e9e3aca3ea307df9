use Rattle.farm_api.proofs.OneAnswer.{put_fault, begun_event, put_reply, put_public, put_contest}
use Rattle.farm_api.proofs.serving.answer_asked.Goals as goal

pub returns-in-Refused-clause-puts : goal.returns-in-Refused-clause-puts
returns-in-Refused-clause-puts g c =
    rw c.in-Refused.is (put_fault g.A.Replier.steps (g.A.Replier.gives c.args.replier.now) c.args.closing c.args.moment c.args.state.now c.in-Refused.fault _ _ c.answer_fault.result c.answer_fault.ensures.writes)

pub returns-in-Ok-clause-puts : goal.returns-in-Ok-clause-puts
returns-in-Ok-clause-puts g c =
    rw c.in-Event.is (put_reply g.A.Replier.steps (g.A.Replier.gives c.args.replier.now) c.args.closing c.in-Event.ticks c.args.moment c.in-Event.event _ _ c.in-Ok.reply _ _ c.answer_reply.result c.in-Ok.ensures.enters c.answer_reply.ensures.writes)

pub returns-in-Job-clause-puts : goal.returns-in-Job-clause-puts
returns-in-Job-clause-puts g c = rw c.in-Job.is c.answer_job.ensures.puts

pub returns-in-Public-clause-puts : goal.returns-in-Public-clause-puts
returns-in-Public-clause-puts g c =
    rw c.in-Public.is (put_public g.A.Replier.steps (g.A.Replier.gives c.args.replier.now) c.args.closing c.args.moment _ _ _ _ c.show.result c.show.ensures.puts)

pub returns-in-Err-clause-puts : goal.returns-in-Err-clause-puts
returns-in-Err-clause-puts g c =
    rw c.in-Event.is (begun_event g.A.Replier.steps (g.A.Replier.gives c.args.replier.now) c.args.closing c.in-Event.ticks c.args.moment c.in-Event.event _ _ _ c.in-Err.ensures.enters)

pub returns-in-Page-clause-puts : goal.returns-in-Page-clause-puts
returns-in-Page-clause-puts g c = rw c.in-Page.is c.answer_page.ensures.puts

pub returns-in-Contest-clause-puts : goal.returns-in-Contest-clause-puts
returns-in-Contest-clause-puts g c =
    rw c.in-Contest.is (put_contest g.A.Replier.steps (g.A.Replier.gives c.args.replier.now) c.args.closing c.args.moment c.args.state.now _ _ c.answer_contest.result c.answer_contest.ensures.writes)
