use Rattle.std.proofs.Common.{rules}
use Rattle.default_validator.proofs.flags.Flags.with_amount.Goals as goal

pub returns-in-Relative : goal.returns-in-Relative
returns-in-Relative c = search rules
