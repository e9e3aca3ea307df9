use Rattle.std.proofs.Common.{rules}
use Rattle.problem_settings.proofs.sizes.Sizes.with_value.Goals as goal

pub returns-in-None-clause-value : goal.returns-in-None-clause-value
returns-in-None-clause-value c = search rules

pub returns-in-Some-mebibytes-clause-value : goal.returns-in-Some-mebibytes-clause-value
returns-in-Some-mebibytes-clause-value c = search rules

pub returns-in_err-text-clause-value : goal.returns-in_err-text-clause-value
returns-in_err-text-clause-value c = search rules
