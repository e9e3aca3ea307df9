use Rattle.std.proofs.Common.{rules}
use Rattle.remote_host.proofs.talker.refused.Goals as goal

pub returns-in-NoMemory-clause-link : goal.returns-in-NoMemory-clause-link
returns-in-NoMemory-clause-link c = search rules
