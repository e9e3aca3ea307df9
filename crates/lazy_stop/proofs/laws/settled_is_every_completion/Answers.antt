use Rattle.lazy_stop.proofs.LawLemmas.{settled_every}
use Rattle.lazy_stop.proofs.laws.settled_is_every_completion.Goals as goal

pub returns : goal.returns
returns c = settled_every
