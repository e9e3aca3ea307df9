use Rattle.std.proofs.Common.{rules}
use Rattle.farm_api.proofs.asking.read_asked.Goals as goal

pub returns-in-Err : goal.returns-in-Err
returns-in-Err c = search rules
