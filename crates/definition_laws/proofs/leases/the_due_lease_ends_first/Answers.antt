use Rattle.definition_laws.proofs.DueLeases.{held, ended, least_end, least_task, none}
use Rattle.definition_laws.proofs.leases.the_due_lease_ends_first.Goals as goal

pub returns-clause-held : goal.returns-clause-held
returns-clause-held c = held

pub returns-clause-ended : goal.returns-clause-ended
returns-clause-ended c = ended

pub returns-clause-least_end : goal.returns-clause-least_end
returns-clause-least_end c = least_end

pub returns-clause-least_task : goal.returns-clause-least_task
returns-clause-least_task c = least_task

pub returns-clause-none : goal.returns-clause-none
returns-clause-none c = none
