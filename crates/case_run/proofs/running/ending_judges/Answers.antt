use Rattle.std.proofs.Common.{rules}
use Rattle.case_run.proofs.running.ending_judges.Goals as goal

pub returns-in-Exit-eq43 : goal.returns-in-Exit-eq43
returns-in-Exit-eq43 c = search rules
