-- A contest as it is read: its settings, its problems, and its submissions in order.
use Rattle.std.specs.Prelude.{List}
use Rattle.farm_model.specs.State.{SettingsValue}
use Rattle.contest_folder.specs.declared.roster.Problem.{Problem}
use Rattle.contest_folder.specs.declared.roster.Submission.{Submission}

pub record RosterValue : Type 0 where
  pub settings : SettingsValue
  pub problems : List Problem
  pub submissions : List Submission
