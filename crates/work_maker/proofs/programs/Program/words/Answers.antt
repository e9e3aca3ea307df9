use Rattle.std.proofs.Common.{rules}
use Rattle.work_maker.proofs.programs.Program.words.Goals as goal

pub returns-in-Half : goal.returns-in-Half
returns-in-Half c = search rules
