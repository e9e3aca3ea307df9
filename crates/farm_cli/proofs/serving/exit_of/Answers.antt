use Rattle.std.proofs.Common.{rules}
use Rattle.farm_cli.proofs.serving.exit_of.Goals as goal

pub returns-in-DoorFault : goal.returns-in-DoorFault
returns-in-DoorFault c = search rules
