use Rattle.std.proofs.Common.{rules}
use Rattle.rv_memory.specs.Paged.{zeros}
use Rattle.rv_memory.proofs.page.blank.Goals as goal

pub returns : goal.returns
unfolding zeros
returns c = search rules
