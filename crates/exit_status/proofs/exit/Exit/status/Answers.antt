use Rattle.std.proofs.Common.{rules}
use Rattle.exit_status.proofs.exit.Exit.status.Goals as goal

pub returns-in-Usage : goal.returns-in-Usage
returns-in-Usage c = search rules
