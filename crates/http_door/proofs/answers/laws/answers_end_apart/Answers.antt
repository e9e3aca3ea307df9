use Rattle.http_door.proofs.AnswerCutting.{answer_apart}
use Rattle.http_door.proofs.answers.laws.answers_end_apart.Goals as goal

pub returns : goal.returns
returns c = answer_apart
