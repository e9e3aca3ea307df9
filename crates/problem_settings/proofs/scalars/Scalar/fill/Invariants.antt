use Rattle.std.proofs.Common.{◌≡◌, ◌≤◌, ◌+◌, ◌++◌, length}
use Rattle.std.specs.Prelude.{vec_len, vec_capacity}
use Rattle.problem_settings.specs.Views.{scalar_text, scalar_size}
use Rattle.problem_settings.proofs.scalars.Scalar.fill.Given as goal

abbrev pub invariant-loop-first : goal.invariant-loop-first
invariant-loop-first l = record {
  said : l.bytes.items ++ scalar_text l.left ≡ scalar_text l.self;
  enough : vec_len l.bytes + length (scalar_text l.left) ≤ vec_capacity l.bytes;
}

abbrev pub decreases-loop-first : goal.decreases-loop-first
decreases-loop-first l = scalar_size l.left
