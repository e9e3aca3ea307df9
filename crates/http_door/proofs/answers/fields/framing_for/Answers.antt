use Rattle.std.proofs.Common.{rules}
use Rattle.http_door.proofs.answers.fields.framing_for.Goals as goal

pub returns-in-Absent : goal.returns-in-Absent
returns-in-Absent c = search rules
