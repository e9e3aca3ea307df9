use Rattle.std.proofs.Common.{◌≡◌, arith, ap, length}
use Rattle.task_tree.proofs.Bitwise.{cut_word, cut_whole}
use Rattle.task_tree.proofs.words.Words.cut.Goals as goal

pub loop-place-preserved : goal.loop-place-preserved
loop-place-preserved c =
    let xs = c.loop-place.self-inside.words.items in
    let below = c.saturating_sub-below.ensures in
    let under = c.loop-place-test.true in
    let fits : length c.args.self.now ≡ c.len-place-end.result = omega (arith, ap length c.self.view_is, c.self.inside.words.ok, c.len-place-end.ensures) in
    cut_word c.args.self.now xs c.args.from c.loop-place.place c.index.result.now c.bits_below.result
    (omega (arith, under, fits, c.loop-place.invariant.size)) c.loop-place.auto.place c.loop-place.invariant c.index.ensures
    (λ i l. c.bits_below.ensures.below i (omega (arith, l, below))) (λ i l. c.bits_below.ensures.above i (omega (arith, l, below)))

pub returns : goal.returns
returns c =
    let past = c.loop-place-test.false in
    let fits : length c.args.self.now ≡ c.len-place-end.result = omega (arith, ap length c.self.view_is, c.self.inside.words.ok, c.len-place-end.ensures) in
    cut_whole c.args.self.now c.loop-place.self-inside.words.items c.args.from c.loop-place.place (omega (arith, past, fits)) c.loop-place.invariant
