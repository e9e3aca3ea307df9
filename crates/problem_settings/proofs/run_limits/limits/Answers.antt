use Rattle.std.proofs.Common.{rules}
use Rattle.problem_settings.proofs.run_limits.limits.Goals as goal

pub returns : goal.returns
returns c = search rules
