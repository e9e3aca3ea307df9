use Rattle.std.proofs.Common.{◌≡◌, ◌+◌, ◌≤◌, length}
use Rattle.rv_memory.specs.Paged.{touch_pages}
use Rattle.rv_memory.proofs.memory.Memory.fits.Given as goal

abbrev pub invariant-loop-k : goal.invariant-loop-k
invariant-loop-k l = record {
  bound : l.new ≤ l.k;
  counted : length l.self.pages + l.new ≡ length (touch_pages l.self l.first l.k).pages;
}
