use Rattle.std.proofs.Common.{rules}
use Rattle.script_session.proofs.session.put_pending.Goals as goal

pub returns-clause-bytes : goal.returns-clause-bytes
returns-clause-bytes c = search rules

pub returns-clause-none : goal.returns-clause-none
returns-clause-none c = search rules
