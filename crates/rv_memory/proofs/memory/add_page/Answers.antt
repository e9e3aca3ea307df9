use Rattle.std.proofs.Common.{arith}
use Rattle.rv_memory.proofs.Places.{indexed_push, indexed_kept, whole_push}
use Rattle.rv_memory.proofs.memory.add_page.Goals as goal

pub returns-clause-indexed : goal.returns-clause-indexed
returns-clause-indexed c = grind (arith, indexed_push, indexed_kept, whole_push)

pub returns-clause-whole : goal.returns-clause-whole
returns-clause-whole c = grind (arith, indexed_push, indexed_kept, whole_push)
