use Rattle.farm_laws.proofs.Reporting.{keeps_promise}
use Rattle.farm_laws.proofs.laws.keeps_promise.Goals as goal

pub returns : goal.returns
returns c = keeps_promise
