use Rattle.std.proofs.Common.{rules}
use Rattle.package_folder.proofs.checking.validator_at.Goals as goal

pub returns-clause-check : goal.returns-clause-check
returns-clause-check c = search rules
