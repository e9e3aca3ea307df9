use Rattle.std.proofs.Common.{◌≡◌, arith}
use Rattle.farm_kinds.specs.declared.kinds.Kind.TheVariants.{Correct}
use Rattle.farm_kinds.specs.Rules.{prio_of}
use Rattle.lazy_stop.proofs.GreatestAndLeast.{EachBelow-more, contained_each}
use Rattle.lazy_stop.proofs.extremes.rival.Goals as goal

pub returns : goal.returns
returns c = contained_each (λ x. prio_of c.args.rule.now x ≡ prio_of c.args.rule.now c.args.top → x ≡ c.args.top) c.args.kinds.now c.loop-kind.kind-index (omega arith) c.loop-kind.invariant

pub loop-kind-preserved : goal.loop-kind-preserved
loop-kind-preserved c = EachBelow-more (λ x. prio_of c.args.rule.now x ≡ prio_of c.args.rule.now c.args.top → x ≡ c.args.top) c.args.kinds.now c.loop-kind.kind-index Correct (omega arith) c.loop-kind.invariant c.if-is_rival.ensures.no
