use Rattle.std.proofs.Common.{rules}
use Rattle.judging_core.proofs.answers.answer_of.Goals as goal

pub returns : goal.returns
returns c = search rules
