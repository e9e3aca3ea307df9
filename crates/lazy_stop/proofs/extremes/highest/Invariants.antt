use Rattle.farm_kinds.specs.Rules.{prio_of}
use Rattle.lazy_stop.proofs.GreatestAndLeast.{GreatestBelow}
use Rattle.lazy_stop.proofs.extremes.highest.Given as goal

abbrev pub invariant-loop-kind : goal.invariant-loop-kind
invariant-loop-kind l = GreatestBelow (prio_of l.rule) l.kinds l.kind-index l.top
