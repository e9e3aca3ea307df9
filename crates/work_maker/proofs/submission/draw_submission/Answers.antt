use Rattle.std.proofs.Common.{rules}
use Rattle.work_maker.proofs.submission.draw_submission.Goals as goal

pub returns-clause-submission : goal.returns-clause-submission
returns-clause-submission c = search rules
