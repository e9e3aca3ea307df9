use Rattle.std.proofs.Common.{rules}
use Rattle.judging_core.proofs.Listed.{nothing_listed}
use Rattle.judging_core.proofs.judge.Judge.new.Goals as goal

pub invariant_of-result : goal.invariant_of-result
invariant_of-result c = let listed = nothing_listed c.args.rule in search rules
