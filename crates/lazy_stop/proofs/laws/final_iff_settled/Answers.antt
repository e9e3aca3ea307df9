use Rattle.lazy_stop.proofs.LawLemmas.{final_settled}
use Rattle.lazy_stop.proofs.laws.final_iff_settled.Goals as goal

pub returns : goal.returns
returns c = final_settled
