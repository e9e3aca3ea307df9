use Rattle.std.proofs.Common.{rules}
use Rattle.wire_json.proofs.fields.who_at.Goals as goal

pub returns-in-None-name_in : goal.returns-in-None-name_in
returns-in-None-name_in c = search rules
