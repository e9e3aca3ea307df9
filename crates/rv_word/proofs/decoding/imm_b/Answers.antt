use Rattle.std.proofs.Common.{rules}
use Rattle.rv_word.proofs.decoding.imm_b.Goals as goal

pub returns : goal.returns
returns c = search rules
