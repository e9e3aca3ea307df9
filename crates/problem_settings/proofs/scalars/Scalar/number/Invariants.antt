use Rattle.std.proofs.Common.{◌≡◌, ◌≤◌}
use Rattle.std.specs.Prelude.{min}
use Rattle.std.specs.Option.{option_map}
use Rattle.problem_settings.specs.Scalars.{number_from}
use Rattle.problem_settings.specs.Views.{scalar_text, scalar_size}
use Rattle.problem_settings.proofs.scalars.Scalar.number.Given as goal

abbrev pub invariant-loop-digit : goal.invariant-loop-digit
invariant-loop-digit l = record {
  said : option_map (λ n. min n 1000001) (number_from l.number (scalar_text l.left)) ≡ option_map (λ n. min n 1000001) (number_from 0 (scalar_text l.self));
  small : l.number ≤ 1000001;
}

abbrev pub decreases-loop-digit : goal.decreases-loop-digit
decreases-loop-digit l = scalar_size l.left
