use Rattle.std.proofs.Common.{ℕ, ◌+◌, ◌∙◌, List, set, get_or, ap}
use Rattle.rv_memory.proofs.Storing.{set_bytes_take}
use Rattle.rv_memory.proofs.page.write_all.Goals as goal

pub loop-k-preserved : goal.loop-k-preserved
loop-k-preserved c =
    ap (λ (page : List ℕ). set page (c.args.offset + c.loop-k.k) (get_or c.args.from.now c.loop-k.k 0)) c.loop-k.invariant
    ∙ set_bytes_take c.args.offset c.loop-k.k c.args.from.now c.args.bytes.now c.loop-k-test.true
