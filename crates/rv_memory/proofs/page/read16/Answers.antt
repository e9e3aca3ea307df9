use Rattle.std.proofs.Common.{rules}
use Rattle.rv_memory.proofs.page.read16.Goals as goal

pub returns-clause-value : goal.returns-clause-value
returns-clause-value c = search rules
