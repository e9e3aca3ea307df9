use Rattle.std.proofs.Common.{◌∙◌, arith}
use Rattle.rv_memory.proofs.Storing.{bytes_at-pushed}
use Rattle.rv_memory.proofs.memory.Memory.copy_out.Goals as goal

pub loop-k-preserved : goal.loop-k-preserved
loop-k-preserved c = record {
  copied = c.push_reserved.ensures.items ∙ bytes_at-pushed c.reserve.new.self.items c.loop-k.out.items c.args.self.now c.args.at c.loop-k.k c.byte.result c.loop-k.invariant.copied c.byte.ensures;
  len = omega arith;
  room = omega arith;
}
