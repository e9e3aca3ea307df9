use Rattle.farm_api.proofs.OneAnswer.{begun_job, put_job}
use Rattle.farm_api.proofs.jobs.answer_job.Goals as goal

pub returns-clause-puts : goal.returns-clause-puts
returns-clause-puts g c =
    put_job g.A.Replier.steps (g.A.Replier.gives c.args.replier.now) c.args.closing c.args.moment c.args.part c.args.judging c.args.test _ _ c.in-Ok.reply _ _ c.put_job.result c.in-Ok.ensures.enters c.put_job.ensures.puts

pub returns-in-Err-clause-puts : goal.returns-in-Err-clause-puts
returns-in-Err-clause-puts g c =
    begun_job g.A.Replier.steps (g.A.Replier.gives c.args.replier.now) c.args.closing c.args.moment c.args.part c.args.judging c.args.test _ _ _ c.in-Err.ensures.enters
