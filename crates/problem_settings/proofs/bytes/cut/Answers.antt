use Rattle.std.proofs.Common.{arith}
use Rattle.problem_settings.proofs.PartLemmas.{part_more, cut_at, uncut}
use Rattle.problem_settings.proofs.bytes.cut.Goals as goal

pub returns-then-b-sep-clause-parts : goal.returns-then-b-sep-clause-parts
returns-then-b-sep-clause-parts c = grind (arith, part_more, cut_at, uncut)

pub loop-i-preserved : goal.loop-i-preserved
loop-i-preserved c = grind (arith, part_more, cut_at, uncut)

pub returns-clause-parts : goal.returns-clause-parts
returns-clause-parts c = grind (arith, part_more, cut_at, uncut)
