use Rattle.http_door.proofs.AnswerCutting.{fault_more}
use Rattle.http_door.proofs.answers.laws.fault_stays.Goals as goal

pub returns : goal.returns
returns c = fault_more
