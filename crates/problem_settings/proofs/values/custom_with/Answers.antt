use Rattle.std.proofs.Common.{rules}
use Rattle.problem_settings.proofs.values.custom_with.Goals as goal

pub returns-then-is_some : goal.returns-then-is_some
returns-then-is_some c = search rules
