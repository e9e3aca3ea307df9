use Rattle.std.proofs.Common.{rules}
use Rattle.http_door.proofs.responses.write_response.Goals as goal

pub returns-clause-writes : goal.returns-clause-writes
returns-clause-writes g c = search rules
