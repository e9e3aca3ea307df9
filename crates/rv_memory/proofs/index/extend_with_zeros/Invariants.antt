use Rattle.std.proofs.Common.{◌≡◌, ℕ, ◌≤◌, length, get_or}
use Rattle.rv_memory.proofs.index.extend_with_zeros.Given as goal

abbrev pub invariant-loop-k : goal.invariant-loop-k
invariant-loop-k l = record {
  same : (r : ℕ) → get_or l.tops.items r 0 ≡ get_or l.initial.tops.items r 0;
  size : l._k ≤ length l.tops.items;
}
