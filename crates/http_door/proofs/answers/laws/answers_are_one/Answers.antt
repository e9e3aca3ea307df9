use Rattle.http_door.proofs.AnswerCutting.{cut_once}
use Rattle.http_door.proofs.answers.laws.answers_are_one.Goals as goal

pub returns : goal.returns
returns c = cut_once
