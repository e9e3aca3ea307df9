use Rattle.std.proofs.Common.{◌≡◌, drop}
use Rattle.problem_settings.specs.Fields.{place_from}
use Rattle.problem_settings.proofs.bytes.place_of.Given as goal

abbrev pub invariant-loop-i : goal.invariant-loop-i
invariant-loop-i l = place_from l.sep l.i (drop l.i l.text) ≡ place_from l.sep 0 l.text
