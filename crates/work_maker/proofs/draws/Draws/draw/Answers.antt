use Rattle.std.proofs.Common.{rules}
use Rattle.work_maker.proofs.draws.Draws.draw.Goals as goal

pub returns-clause-state : goal.returns-clause-state
returns-clause-state c = search rules
