use Rattle.lazy_stop.proofs.LawLemmas.{full_pending}
use Rattle.lazy_stop.proofs.laws.full_pending_iff_empty.Goals as goal

pub returns : goal.returns
returns c = full_pending
