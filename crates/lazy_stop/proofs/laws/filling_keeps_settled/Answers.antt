use Rattle.lazy_stop.proofs.Answering.{possible_of}
use Rattle.lazy_stop.proofs.LawLemmas.{filled_settled}
use Rattle.lazy_stop.proofs.laws.filling_keeps_settled.Goals as goal

pub returns : goal.returns
returns c = λ rule row at kind v e p. filled_settled rule row at kind v e (possible_of rule kind p)
