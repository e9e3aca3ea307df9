use Rattle.std.proofs.Common.{◌≡◌, drop}
use Rattle.problem_settings.specs.ProblemYaml.{after_word}
use Rattle.problem_settings.specs.Views.{scalar_text}
use Rattle.problem_settings.proofs.scalars.Scalar.after_word.Given as goal

abbrev pub invariant-loop-w : goal.invariant-loop-w
invariant-loop-w l = after_word (drop l.w-index l.word) (scalar_text l.left) ≡ after_word l.word (scalar_text l.self)
