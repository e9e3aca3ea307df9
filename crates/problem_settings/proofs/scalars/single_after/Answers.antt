use Rattle.std.proofs.Common.{◌≡◌}
use Rattle.problem_settings.proofs.ScalarLemmas.{single_skips_front, single_goes_front, single_open, single_closed, single_followed}
use Rattle.problem_settings.proofs.scalars.single_after.Goals as goal

pub loop-left-preserved-then-first-ne39 : goal.loop-left-preserved-then-first-ne39
loop-left-preserved-then-first-ne39 c = single_skips_front c.loop-left.left.now c.args.text.now c.in-len1-up.len_at_least c.if-first-ne39.true c.loop-left.invariant

pub loop-left-preserved : goal.loop-left-preserved
loop-left-preserved c =
    single_goes_front c.loop-left.left.now c.args.text.now c.in-len1-up.len_at_least c.if-first-ne39.false c.in-len1-up-rest.len_at_least c.if-second-ne39.false c.loop-left.invariant

pub returns-in_default-rest : goal.returns-in_default-rest
returns-in_default-rest c = single_closed c.loop-left.left.now c.args.text.now c.in-len1-up.len_at_least c.if-first-ne39.false c.in_default-rest.len_below c.loop-left.invariant

pub returns-then-second-ne39 : goal.returns-then-second-ne39
returns-then-second-ne39 c =
    single_followed c.loop-left.left.now c.args.text.now c.in-len1-up.len_at_least c.if-first-ne39.false c.in-len1-up-rest.len_at_least c.if-second-ne39.true c.loop-left.invariant

pub returns : goal.returns
returns c = single_open c.loop-left.left.now c.args.text.now c.in_default.len_below c.loop-left.invariant
