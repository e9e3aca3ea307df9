use Rattle.std.proofs.Common.{rules}
use Rattle.parallel_judge.proofs.noted.NotedFarm.step.Goals as goal

pub returns-in-Some-clause-notes : goal.returns-in-Some-clause-notes
returns-in-Some-clause-notes c = search rules
