use Rattle.farm_laws.proofs.Reporting.{step_keeps_promise}
use Rattle.farm_laws.proofs.laws.step_keeps_promise.Goals as goal

pub returns : goal.returns
returns c = step_keeps_promise
