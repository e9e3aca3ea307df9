use Rattle.std.proofs.Common.{refl}
use Rattle.problem_settings.specs.Skipped.{has_limit, ini_skipped, said_limits, yaml_skipped}
use Rattle.package_notes.proofs.worked.worked_notes.Goals as goal

pub returns : goal.returns
unfolding has_limit ini_skipped said_limits yaml_skipped
returns c = record {
  misspelt = refl;
  below = refl;
  under_limits = refl;
  on_one_line = refl;
  cut_down = refl;
  the_most = refl;
  comment = refl;
  settings = refl;
  no_limit = refl;
  no_file = refl;
}
