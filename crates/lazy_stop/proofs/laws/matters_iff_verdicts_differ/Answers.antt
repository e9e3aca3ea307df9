use Rattle.lazy_stop.proofs.Computing.{matters_computed}
use Rattle.lazy_stop.proofs.laws.matters_iff_verdicts_differ.Goals as goal

pub returns : goal.returns
returns c = matters_computed
