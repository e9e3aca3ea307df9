use Rattle.std.proofs.Common.{rules}
use Rattle.farm_io.proofs.connections.ConnectionSource.take.Goals as goal

pub returns-clause-beside : goal.returns-clause-beside
returns-clause-beside c = search rules
