use Rattle.std.proofs.Common.{length}
use Rattle.rv_machine.specs.Decoded.{IsCode}
use Rattle.rv_machine.proofs.Kept.{kept, keeps_touch_range}
use Rattle.rv_machine.proofs.processor.Processor.copy_in.Goals as goal

pub returns-in-Ok-clause-code : goal.returns-in-Ok-clause-code
returns-in-Ok-clause-code c =
    let n = length c.args.bytes.now in
    let before : IsCode c.self.inside.memory c.args.code.now = rw (← c.self.view_is) at c.requires.code in
    let touched : IsCode c.touch_range.new.self c.args.code.now = rw c.in-Ok.ensures.touched (kept c.self.inside.memory _ c.args.code.now (keeps_touch_range c.self.inside.memory c.args.at n) before) in
    rw c.copy_in.ensures (c.forget_all.ensures.fresh c.touch_range.new.self touched)
