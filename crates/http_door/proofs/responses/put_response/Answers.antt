use Rattle.std.proofs.Common.{rules}
use Rattle.http_door.proofs.responses.put_response.Goals as goal

pub returns-in-Done-clause-cause : goal.returns-in-Done-clause-cause
returns-in-Done-clause-cause g c = search rules
