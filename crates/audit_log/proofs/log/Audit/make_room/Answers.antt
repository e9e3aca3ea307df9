use Rattle.std.proofs.Common.{rules}
use Rattle.audit_log.proofs.log.Audit.make_room.Goals as goal

pub returns-then-len-reserved-clause-enough : goal.returns-then-len-reserved-clause-enough
returns-then-len-reserved-clause-enough c = search rules

pub returns-in_err-reserve-2-clause-unchanged : goal.returns-in_err-reserve-2-clause-unchanged
returns-in_err-reserve-2-clause-unchanged c = search rules
