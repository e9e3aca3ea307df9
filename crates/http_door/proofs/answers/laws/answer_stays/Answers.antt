use Rattle.http_door.proofs.AnswerCutting.{answer_more}
use Rattle.http_door.proofs.answers.laws.answer_stays.Goals as goal

pub returns : goal.returns
returns c = answer_more
