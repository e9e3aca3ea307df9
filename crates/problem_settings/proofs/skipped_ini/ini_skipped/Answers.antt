use Rattle.std.proofs.Common.{arith}
use Rattle.std.proofs.lemmas.Grind.{common_steps}
use Rattle.problem_settings.specs.Skipped.{ini_skipped}
use Rattle.problem_settings.proofs.skipped_ini.ini_skipped.Goals as goal

pub loop-left-preserved : goal.loop-left-preserved
unfolding ini_skipped
loop-left-preserved c = grind (arith, common_steps)
