use Rattle.std.proofs.Common.{◌≡◌, drop}
use Rattle.contest_notes.specs.Mistakes.{has_two_spaces, two_spaces_from}
use Rattle.contest_notes.proofs.mistakes.has_two_spaces.Given as goal

abbrev pub invariant-loop-b : goal.invariant-loop-b
invariant-loop-b l = two_spaces_from l.before (drop l.b-index l.text) ≡ has_two_spaces l.text
