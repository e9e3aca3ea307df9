use Rattle.std.proofs.Common.{rules}
use Rattle.farm_io.proofs.lines.text_len.Goals as goal

pub returns-in-13-clause-text : goal.returns-in-13-clause-text
returns-in-13-clause-text c = search rules
