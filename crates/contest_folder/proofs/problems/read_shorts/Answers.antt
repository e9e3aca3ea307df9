use Rattle.std.proofs.Common.{rules}
use Rattle.contest_folder.proofs.problems.read_shorts.Goals as goal

pub returns-clause-rising : goal.returns-clause-rising
returns-clause-rising c = search rules

pub returns-clause-shorts : goal.returns-clause-shorts
returns-clause-shorts c = search rules
