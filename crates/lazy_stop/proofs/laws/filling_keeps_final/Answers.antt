use Rattle.lazy_stop.proofs.Answering.{possible_of}
use Rattle.lazy_stop.proofs.LawLemmas.{final_fewer}
use Rattle.lazy_stop.proofs.laws.filling_keeps_final.Goals as goal

pub returns : goal.returns
returns c = λ rule row at kind v e p. final_fewer rule row at kind v e (possible_of rule kind p)
