use Rattle.std.proofs.Common.{ℕ}
use Rattle.std.proofs.lemmas.List.{length-replicate, get_or-replicate}
use Rattle.rejudge_book.proofs.matrices.pair_counts.Goals as goal

pub loop-old-init : goal.loop-old-init
loop-old-init c = record { len = length-replicate {A = ℕ} 100 0; counted = λ place l. get_or-replicate {A = ℕ} 100 place 0 0 l }
