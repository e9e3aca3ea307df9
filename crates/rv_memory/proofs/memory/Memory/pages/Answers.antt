use Rattle.std.proofs.Common.{rules}
use Rattle.rv_memory.proofs.memory.Memory.pages.Goals as goal

pub returns-clause-count : goal.returns-clause-count
returns-clause-count c = search rules
