use Rattle.std.proofs.Common.{rules}
use Rattle.rv_machine.proofs.machine.Machine.run.Goals as goal

pub returns-clause-kept : goal.returns-clause-kept
returns-clause-kept c = search rules

pub returns-clause-onward : goal.returns-clause-onward
returns-clause-onward c = search rules
