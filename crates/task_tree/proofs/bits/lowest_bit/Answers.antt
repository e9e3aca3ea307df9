use Rattle.std.proofs.Common.{w64, arith}
use Rattle.std.proofs.lemmas.Nat.Bits.{bit_at-trailing_zeros}
use Rattle.task_tree.proofs.bits.lowest_bit.Goals as goal

pub returns : goal.returns
returns c = let h = bit_at-trailing_zeros w64 c.args.word (omega arith) (omega arith) in record { within = h.0; set = h.1; lowest = h.2 }
