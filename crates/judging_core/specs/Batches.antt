-- The open tasks of a state, and those of one judging among them.
use Rattle.std.specs.Prelude.{◌≡◌, ℕ, List, ◌++◌, Bool}
use Rattle.farm_kinds.specs.declared.outcomes.Task.{Task}
use Rattle.farm_model.specs.Judge.{JudgeState, open_of}
use Rattle.farm_model.specs.Open.{open_tasks}
use Rattle.judging_core.specs.Listed.{is_open}

abbrev pub is_open_task : JudgeState → Task → Bool
is_open_task s task = is_open s.rule s.judgings s.leases task

-- the open tasks of the judging come before those of all others
pub record ComesFirst (s : JudgeState) (j : ℕ) : Type 0 where
  pub others : List Task
  pub first : open_tasks s.rule s.judgings s.leases ≡ open_of s j ++ others
