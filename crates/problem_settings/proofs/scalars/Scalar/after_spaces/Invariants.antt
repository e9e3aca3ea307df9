use Rattle.std.proofs.Common.{◌≡◌}
use Rattle.problem_settings.specs.Fields.{after_spaces}
use Rattle.problem_settings.specs.Views.{scalar_text, scalar_size}
use Rattle.problem_settings.proofs.scalars.Scalar.after_spaces.Given as goal

abbrev pub invariant-loop-first : goal.invariant-loop-first
invariant-loop-first l = after_spaces (scalar_text l.left) ≡ after_spaces (scalar_text l.self)

abbrev pub decreases-loop-first : goal.decreases-loop-first
decreases-loop-first l = scalar_size l.left
