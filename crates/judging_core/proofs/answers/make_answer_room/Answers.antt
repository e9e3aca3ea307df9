use Rattle.std.proofs.Common.{rules}
use Rattle.judging_core.proofs.answers.make_answer_room.Goals as goal

pub returns-clause-room : goal.returns-clause-room
returns-clause-room c = search rules
