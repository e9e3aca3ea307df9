use Rattle.audit_log.proofs.Chained.{unbroken}
use Rattle.audit_log.proofs.log.Audit.entries.Goals as goal

pub returns-clause-whole : goal.returns-clause-whole
returns-clause-whole c = rw c.as_slice.ensures.value (unbroken c.self.inside.entries.items c.self.invariant.chained)
