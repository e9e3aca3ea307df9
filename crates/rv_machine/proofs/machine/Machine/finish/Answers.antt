use Rattle.std.proofs.Common.{◌∙◌}
use Rattle.rv_machine.proofs.Finishing.{call_ended}
use Rattle.rv_machine.proofs.machine.Machine.finish.Goals as goal

pub returns-in-Err-Ended : goal.returns-in-Err-Ended
returns-in-Err-Ended c =
    record {
      ok = c.loop-ending.invariant.same
          ∙ call_ended c.loop-ending.self.state c.run_to_stop.new.self.state c.call.new.self.state c.in-Err-Ended.ending c.in-Call.ensures.stops.0 (rw c.in-Err-Ended.field-0-is at c.in-Err-Ended.ensures.gives);
      unfinished = tt;
    }
