use Rattle.std.proofs.Common.{◌≡◌, drop}
use Rattle.problem_settings.specs.Scalars.{comment_from}
use Rattle.problem_settings.proofs.scalars.comment_of.Given as goal

abbrev pub invariant-loop-i : goal.invariant-loop-i
invariant-loop-i l = comment_from l.i l.spaced (drop l.i l.text) ≡ comment_from 0 l.fn.spaced l.text
