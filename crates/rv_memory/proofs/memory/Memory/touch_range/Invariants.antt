use Rattle.std.proofs.Common.{◌≡◌}
use Rattle.rv_memory.specs.Paged.{touch_pages}
use Rattle.rv_memory.proofs.memory.Memory.touch_range.Given as goal

abbrev pub invariant-loop-k : goal.invariant-loop-k
invariant-loop-k l = l.self ≡ touch_pages l.initial.self l.first l.k
