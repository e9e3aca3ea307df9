use Rattle.std.proofs.Common.{rules}
use Rattle.http_door.specs.Refusals.{refusal_response}
use Rattle.http_door.proofs.refusals.Refusal.response.Goals as goal

pub returns-in-NoLength : goal.returns-in-NoLength
unfolding refusal_response
returns-in-NoLength c = search rules
