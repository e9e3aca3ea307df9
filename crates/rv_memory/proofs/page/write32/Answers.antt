use Rattle.std.proofs.Common.{rules}
use Rattle.rv_memory.proofs.page.write32.Goals as goal

pub returns : goal.returns
returns c = search rules
