use Rattle.std.proofs.Common.{◌≡◌, length}
use Rattle.std.specs.Prelude.{IfSome}
use Rattle.problem_settings.specs.Entries.{entries}
use Rattle.problem_settings.specs.ProblemYaml.{nothing, said_from, belongs}
use Rattle.problem_settings.specs.Views.{said_value, lines_at, HasSizes}
use Rattle.problem_settings.proofs.reading.said_in.Given as goal

abbrev pub invariant-loop-left : goal.invariant-loop-left
invariant-loop-left l = record {
  said : said_from (said_value l.said) (entries belongs (lines_at l.left)) ≡ said_from nothing (entries belongs (lines_at l.lines));
  sound : IfSome l.said.sizes HasSizes;
}

abbrev pub decreases-loop-left : goal.decreases-loop-left
decreases-loop-left l = length (lines_at l.left)
