use Rattle.std.proofs.Common.{◌≡◌, find, drop}
use Rattle.contest_folder.specs.SubmissionLines.{lacks_problem}
use Rattle.contest_folder.proofs.lines.first_lost.Given as goal

abbrev pub invariant-loop-entry : goal.invariant-loop-entry
invariant-loop-entry l = find (lacks_problem l.problems) (drop l.entry-index l.entries) ≡ find (lacks_problem l.problems) l.entries
