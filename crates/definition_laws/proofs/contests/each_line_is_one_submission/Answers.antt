use Rattle.definition_laws.proofs.ContestLines.{listed_submissions}
use Rattle.definition_laws.proofs.contests.each_line_is_one_submission.Goals as goal

pub returns : goal.returns
returns c = listed_submissions
