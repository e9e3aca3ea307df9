-- How a job lies in memory.
use Rattle.case_run.specs.Cases.{TestCase, CanRun}
use Rattle.wire_job.specs.declared.job.Job.TheInside.{Inside}
use Rattle.wire_job.specs.JobValue.{JobValue}
use Rattle.wire_job.specs.Checks.{own_checking}

abbrev pub own_case : Inside → TestCase
own_case j =
    record {
      image = j.image;
      input = j.input;
      answer = j.answer;
      check = own_checking j.check;
      limits = j.limits;
    }

abbrev pub job_value : Inside → JobValue
job_value j = record { task = j.task; case = own_case j }

abbrev pub IsJobShape : Inside → Type 0
IsJobShape j = CanRun (own_case j)
