-- What a job stands for.
use Rattle.farm_kinds.specs.declared.outcomes.Task.{Task}
use Rattle.case_run.specs.Cases.{TestCase}

pub record JobValue : Type 0 where
  pub task : Task
  -- the test that the task is
  pub case : TestCase
