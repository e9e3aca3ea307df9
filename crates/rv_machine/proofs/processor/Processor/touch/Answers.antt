use Rattle.rv_machine.proofs.Kept.{kept, keeps_touch_range}
use Rattle.rv_machine.proofs.processor.Processor.touch.Goals as goal
use Rattle.rv_machine.proofs.processor.Processor.touch.Goals.{in-Ok, in-Err}

pub returns-clause-code : goal.returns-clause-code
returns-clause-code c =
    λ code k.
    let m = c.self.inside.memory in
    elim c.match-touch_range.branch [
      | in-Ok w ↦ rw w.in-Ok.ensures.touched (kept m _ code (keeps_touch_range m c.args.at c.args.n) (rw (← c.self.view_is) at k))
      | in-Err w ↦ rw w.in-Err.ensures.unchanged (rw (← c.self.view_is) at k)
    ]
