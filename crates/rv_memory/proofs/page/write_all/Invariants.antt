use Rattle.std.proofs.Common.{◌≡◌, take}
use Rattle.rv_memory.specs.PageBytes.{set_bytes}
use Rattle.rv_memory.proofs.page.write_all.Given as goal

abbrev pub invariant-loop-k : goal.invariant-loop-k
invariant-loop-k l = l.bytes ≡ set_bytes l.offset (take l.k l.from) l.initial.bytes
