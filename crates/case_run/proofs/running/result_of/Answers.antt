use Rattle.std.proofs.Common.{rules}
use Rattle.case_run.proofs.running.result_of.Goals as goal

pub returns-in-Exit-eq0 : goal.returns-in-Exit-eq0
returns-in-Exit-eq0 c = search rules
