use Rattle.std.proofs.Common.{◌≡◌}
use Rattle.problem_settings.proofs.ScalarLemmas.{double_skips_front, double_goes_front, double_open, double_closed, double_cut, double_bad}
use Rattle.problem_settings.proofs.scalars.double_after.Goals as goal

pub loop-left-preserved-then-first-ne92 : goal.loop-left-preserved-then-first-ne92
loop-left-preserved-then-first-ne92 c =
    double_skips_front c.loop-left.left.now c.args.text.now c.in-len1-up.len_at_least c.if-first-eq34.false c.if-first-ne92.true c.loop-left.invariant

pub loop-left-preserved : goal.loop-left-preserved
loop-left-preserved c =
    double_goes_front c.loop-left.left.now c.args.text.now c.in-len1-up.len_at_least c.if-first-ne92.false c.in-len1-up-rest.len_at_least
    c.if-not-is_escape.ensures c.loop-left.invariant

pub returns-then-first-eq34 : goal.returns-then-first-eq34
returns-then-first-eq34 c = double_closed c.loop-left.left.now c.args.text.now c.in-len1-up.len_at_least c.if-first-eq34.true c.loop-left.invariant

pub returns-in_default-rest : goal.returns-in_default-rest
returns-in_default-rest c = double_cut c.loop-left.left.now c.args.text.now c.in-len1-up.len_at_least c.if-first-ne92.false c.in_default-rest.len_below c.loop-left.invariant

pub returns-then-not-is_escape : goal.returns-then-not-is_escape
returns-then-not-is_escape c =
    double_bad c.loop-left.left.now c.args.text.now c.in-len1-up.len_at_least c.if-first-ne92.false c.in-len1-up-rest.len_at_least c.if-not-is_escape.ensures c.loop-left.invariant

pub returns : goal.returns
returns c = double_open c.loop-left.left.now c.args.text.now c.in_default.len_below c.loop-left.invariant
