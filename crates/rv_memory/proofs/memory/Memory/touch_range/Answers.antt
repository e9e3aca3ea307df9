use Rattle.std.proofs.Common.{◌≡◌, ℕ, ◌/◌, ◌<◌, ◌∙◌, length, ap, arith}
use Rattle.std.proofs.lemmas.Grind.{common_steps}
use Rattle.rv_memory.specs.Paged.{touch_pages, touch_range, span}
use Rattle.rv_memory.proofs.Ranges.{room_in_range, touched_range, undone}
use Rattle.rv_memory.proofs.memory.Memory.touch_range.Goals as goal

pub ensure-requires-clause-room : goal.ensure-requires-clause-room
ensure-requires-clause-room c =
    let below : c.loop-k.k < span c.args.at c.args.count = omega arith in
    rw c.loop-k.invariant (room_in_range c.args.self.now c.args.at c.args.count c.loop-k.k c.requires.room below)

pub returns-clause-covered : goal.returns-clause-covered
returns-clause-covered c =
    let e : c.loop-k.k ≡ span c.args.at c.args.count = omega arith in
    let now : c.loop-k.self ≡ touch_range c.args.self.now c.args.at c.args.count = c.loop-k.invariant ∙ ap (λ (n : ℕ). touch_pages c.args.self.now (c.args.at / 4096) n) e in
    rw now (touched_range c.args.self.now c.args.at c.args.count)

pub returns-in-Err-clause-unchanged : goal.returns-in-Err-clause-unchanged
returns-in-Err-clause-unchanged c =
    let s = c.args.self.now in
    let now : c.ensure.new.self ≡ touch_pages s (c.args.at / 4096) c.loop-k.k = c.in-Err.ensures.unchanged ∙ c.loop-k.invariant in
    let len : c.len-kept.result ≡ length s.pages = grind (arith, common_steps) in
    c.forget_after.ensures ∙ undone s c.ensure.new.self (c.args.at / 4096) c.loop-k.k c.len-kept.result now len
