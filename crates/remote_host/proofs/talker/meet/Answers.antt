use Rattle.std.proofs.Common.{rules}
use Rattle.remote_host.proofs.talker.meet.Goals as goal

pub returns-clause-kept : goal.returns-clause-kept
returns-clause-kept c = search rules
