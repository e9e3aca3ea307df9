use Rattle.std.proofs.Common.{rules}
use Rattle.lazy_stop.proofs.Before.{decides_before}
use Rattle.lazy_stop.proofs.row.matters_before.Goals as goal

pub returns-then-prio : goal.returns-then-prio
returns-then-prio c = decides_before c.args.rule.now c.args.extremes c.args.best c.args.tests c.from.result (search rules)

pub returns-in_default : goal.returns-in_default
returns-in_default c = decides_before c.args.rule.now c.args.extremes c.args.best c.args.tests c.args.tests (search rules)

pub returns-then-prio-2 : goal.returns-then-prio-2
returns-then-prio-2 c = decides_before c.args.rule.now c.args.extremes c.args.best c.args.tests c.args.tests (search rules)

pub returns-in-Some-rival : goal.returns-in-Some-rival
returns-in-Some-rival c = decides_before c.args.rule.now c.args.extremes c.args.best c.args.tests c.in-Some.best.at (search rules)

pub returns-in-None : goal.returns-in-None
returns-in-None c = decides_before c.args.rule.now c.args.extremes c.args.best c.args.tests 0 (search rules)
