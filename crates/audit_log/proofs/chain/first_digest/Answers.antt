use Rattle.std.proofs.Common.{rules}
use Rattle.audit_log.proofs.chain.first_digest.Goals as goal

pub returns : goal.returns
returns c = search rules
