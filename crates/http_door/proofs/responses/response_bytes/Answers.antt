use Rattle.std.proofs.Common.{rules}
use Rattle.http_door.proofs.responses.response_bytes.Goals as goal

pub returns : goal.returns
returns c = search rules
