use Rattle.std.proofs.Common.{rules}
use Rattle.farm_io.proofs.memory_link.MemoryLinkLink.give_back.Goals as goal

pub returns-clause-back : goal.returns-clause-back
returns-clause-back c = search rules
