use Rattle.std.proofs.Common.{rules}
use Rattle.farm_io.proofs.adapters.ReadSourceSource.take.Goals as goal

pub returns-in-Ok-eq0-clause-cause : goal.returns-in-Ok-eq0-clause-cause
returns-in-Ok-eq0-clause-cause c = search rules
