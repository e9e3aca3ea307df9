use Rattle.std.proofs.Common.{◌≡◌, drop}
use Rattle.audit_log.specs.Entries.{first_broken, first_broken_from}
use Rattle.audit_log.proofs.checking.check.Given as goal

abbrev pub invariant-loop-at : goal.invariant-loop-at
invariant-loop-at l = first_broken_from l.digest l.at (drop l.at l.entries) ≡ first_broken l.fn.entries
