use Rattle.http_door.proofs.AnswerCutting.{answer_once}
use Rattle.http_door.proofs.answers.laws.answer_is_one.Goals as goal

pub returns : goal.returns
returns c = answer_once
