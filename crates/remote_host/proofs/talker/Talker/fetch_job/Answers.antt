use Rattle.std.proofs.Common.{◌+◌, None, ap, ◌∙◌}
use Rattle.remote_host.specs.Talk.{image_for}
use Rattle.remote_host.proofs.Turning.{plain_refused, job_turned, said_is, fetched_case}
use Rattle.remote_host.proofs.talker.Talker.fetch_job.Goals as goal

pub returns-in-Err-clause-talks : goal.returns-in-Err-clause-talks
returns-in-Err-clause-talks g c =
    λ start claims fetched posted fine s. plain_refused _ start _ claims (fetched + 1) posted _ c.in-Err.fault c.in-Err.ensures.plain (c.in-Err.ensures.talks start claims fetched posted c.args.kept.now fine s)

pub returns-in-Nothing-clause-talks : goal.returns-in-Nothing-clause-talks
returns-in-Nothing-clause-talks g c = λ start claims fetched posted fine s. (c.in-Ok.ensures.fine ∙ fine, said_is _ start _ claims (fetched + 1) posted _ None _ _ c.in-Nothing.is (c.in-Ok.ensures.talks start claims fetched posted c.args.kept.now fine s))

pub returns-in-NoHost-clause-talks : goal.returns-in-NoHost-clause-talks
returns-in-NoHost-clause-talks g c = λ start claims fetched posted fine s. said_is _ start _ claims (fetched + 1) posted _ None _ _ c.in-NoHost.is (c.in-Ok.ensures.talks start claims fetched posted c.args.kept.now fine s)

pub returns-in-Holding-clause-talks : goal.returns-in-Holding-clause-talks
returns-in-Holding-clause-talks g c = λ start claims fetched posted fine s. said_is _ start _ claims (fetched + 1) posted _ None _ _ c.in-Holding.is (c.in-Ok.ensures.talks start claims fetched posted c.args.kept.now fine s)

pub returns-in-Err-job-clause-talks : goal.returns-in-Err-job-clause-talks
returns-in-Err-job-clause-talks g c =
    λ start claims fetched posted fine s. plain_refused _ start _ claims (fetched + 1) posted _ c.in-Err-job.fault c.in-Err-job.ensures.plain
    (c.in-Err-job.ensures.talks start claims (fetched + 1) posted (c.in-Ok.ensures.fine ∙ fine) (fetched_case _ start _ claims (fetched + 1) posted _ None _ c.in-Task.task _ c.in-Task.is (c.image_for-has.ensures ∙ ap (λ z. image_for z c.in-Task.task) c.take.ensures.value) (c.in-Ok.ensures.talks start claims fetched posted c.args.kept.now fine s)))

pub returns-in-Ok-job-clause-talks : goal.returns-in-Ok-job-clause-talks
returns-in-Ok-job-clause-talks g c =
    λ start claims fetched posted fine s. (
      c.in-Ok-job.ensures.fine ∙ c.in-Ok.ensures.fine ∙ fine,
      job_turned _ start _ claims (fetched + 1) posted c.in-Task.task _ c.in-Ok-job.ensures.task
          (c.in-Ok-job.ensures.talks start claims (fetched + 1) posted (c.in-Ok.ensures.fine ∙ fine) (fetched_case _ start _ claims (fetched + 1) posted _ None _ c.in-Task.task _ c.in-Task.is (c.image_for-has.ensures ∙ ap (λ z. image_for z c.in-Task.task) c.take.ensures.value) (c.in-Ok.ensures.talks start claims fetched posted c.args.kept.now fine s))),
    )
