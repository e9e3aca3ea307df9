use Rattle.std.proofs.Common.{rules}
use Rattle.default_validator.proofs.agreement.decimals_agree.Goals as goal

pub returns : goal.returns
returns c = search rules
