use Rattle.std.proofs.Common.{◌≡◌}
use Rattle.rvrun.proofs.report.run_to_end.Goals as goal

pub returns-clause-report : goal.returns-clause-report
returns-clause-report c = rw c.in_ok-ending.ensures.ok (cc)
