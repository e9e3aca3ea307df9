use Rattle.std.proofs.Common.{rules}
use Rattle.http_door.proofs.responses.content_lines.Goals as goal

pub returns-in-Page : goal.returns-in-Page
returns-in-Page c = search rules
