use Rattle.std.proofs.Common.{rules}
use Rattle.case_run.proofs.running.run_validator.Goals as goal

pub returns : goal.returns
returns c = search rules
