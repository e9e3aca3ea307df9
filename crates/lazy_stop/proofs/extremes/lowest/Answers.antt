use Rattle.std.proofs.Common.{arith}
use Rattle.farm_kinds.specs.declared.kinds.Kind.TheVariants.{Correct}
use Rattle.lazy_stop.proofs.GreatestAndLeast.{least_more, least_all}
use Rattle.lazy_stop.proofs.extremes.lowest.Goals as goal

pub loop-kind-preserved : goal.loop-kind-preserved
loop-kind-preserved c = least_more _ _ _ _ Correct _ (omega arith) c.loop-kind.invariant c.lower-low.ensures.either c.lower-low.ensures.below_one c.lower-low.ensures.below_other

pub returns-clause-lowest : goal.returns-clause-lowest
returns-clause-lowest c = least_all _ _ c.loop-kind.kind-index _ (omega arith) c.loop-kind.invariant
