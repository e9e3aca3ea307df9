use Rattle.std.proofs.Common.{◌≡◌, ◌+◌, ◌++◌, ◌≤◌, vec_len, vec_capacity}
use Rattle.rv_memory.specs.Paged.{bytes_at}
use Rattle.rv_memory.proofs.memory.Memory.copy_out.Given as goal

abbrev pub invariant-loop-k : goal.invariant-loop-k
invariant-loop-k l = record {
  copied : l.out.items ≡ l.initial.out.items ++ bytes_at l.self l.at l.k;
  len : vec_len l.out ≡ vec_len l.initial.out + l.k;
  room : vec_len l.initial.out + l.count ≤ vec_capacity l.out;
}
