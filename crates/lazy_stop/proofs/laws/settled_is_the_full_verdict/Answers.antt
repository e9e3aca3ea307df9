use Rattle.lazy_stop.proofs.LawLemmas.{settled_full_verdict}
use Rattle.lazy_stop.proofs.laws.settled_is_the_full_verdict.Goals as goal

pub returns : goal.returns
returns c = settled_full_verdict
