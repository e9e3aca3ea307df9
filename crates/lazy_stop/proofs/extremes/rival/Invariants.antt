use Rattle.std.proofs.Common.{◌≡◌}
use Rattle.farm_kinds.specs.Rules.{prio_of}
use Rattle.lazy_stop.proofs.Firsts.{EachBelow}
use Rattle.lazy_stop.proofs.extremes.rival.Given as goal

abbrev pub invariant-loop-kind : goal.invariant-loop-kind
invariant-loop-kind l = EachBelow (λ x. prio_of l.rule x ≡ prio_of l.rule l.top → x ≡ l.top) l.kind-index l.kinds
