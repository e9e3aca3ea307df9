use Rattle.std.proofs.Common.{arith}
use Rattle.farm_kinds.specs.declared.kinds.Kind.TheVariants.{Correct}
use Rattle.lazy_stop.proofs.GreatestAndLeast.{greatest_more, greatest_all}
use Rattle.lazy_stop.proofs.extremes.highest.Goals as goal

pub loop-kind-preserved : goal.loop-kind-preserved
loop-kind-preserved c = greatest_more _ _ _ _ Correct _ (omega arith) c.loop-kind.invariant c.higher-top.ensures.either c.higher-top.ensures.above_one c.higher-top.ensures.above_other

pub returns-clause-highest : goal.returns-clause-highest
returns-clause-highest c = greatest_all _ _ c.loop-kind.kind-index _ (omega arith) c.loop-kind.invariant
