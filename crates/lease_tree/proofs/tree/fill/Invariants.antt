use Rattle.std.proofs.Common.{◌≡◌, vec_len, vec_capacity}
use Rattle.lease_tree.proofs.tree.fill.Given as goal

abbrev pub invariant-loop : goal.invariant-loop
invariant-loop l = record { at : vec_len l.pool ≡ l.counter; capacity : vec_capacity l.pool ≡ vec_capacity l.fn.pool }
