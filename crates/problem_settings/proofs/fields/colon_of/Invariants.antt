use Rattle.std.proofs.Common.{◌≡◌, drop}
use Rattle.problem_settings.specs.Fields.{colon_from}
use Rattle.problem_settings.proofs.fields.colon_of.Given as goal

abbrev pub invariant-loop-i : goal.invariant-loop-i
invariant-loop-i l = colon_from l.i (drop l.i l.text) ≡ colon_from 0 l.text
