use Rattle.farm_kinds.specs.Rules.{prio_of}
use Rattle.lazy_stop.proofs.GreatestAndLeast.{LeastBelow}
use Rattle.lazy_stop.proofs.extremes.lowest.Given as goal

abbrev pub invariant-loop-kind : goal.invariant-loop-kind
invariant-loop-kind l = LeastBelow (prio_of l.rule) l.kinds l.kind-index l.low
