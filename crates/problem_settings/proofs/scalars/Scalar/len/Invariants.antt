use Rattle.std.proofs.Common.{◌≡◌, ◌+◌, ◌≤◌, length}
use Rattle.problem_settings.specs.Views.{scalar_text, scalar_size}
use Rattle.problem_settings.proofs.scalars.Scalar.len.Given as goal

abbrev pub invariant-loop-rest : goal.invariant-loop-rest
invariant-loop-rest l = record {
  said : l.len + length (scalar_text l.left) ≡ length (scalar_text l.self);
  short : l.len + scalar_size l.left ≤ l.most;
}

abbrev pub decreases-loop-rest : goal.decreases-loop-rest
decreases-loop-rest l = scalar_size l.left
