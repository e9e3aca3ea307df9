use Rattle.std.proofs.Common.{◌≤◌}
use Rattle.farm_io.specs.ReaderValue.{budget}
use Rattle.script_session.specs.Keeping.{IsKeeping}
use Rattle.script_session.proofs.session.run_session.Given as goal

abbrev pub invariant-lines : goal.invariant-lines
invariant-lines g l =
    let left = g.S.Source.left in
    let held = g.K.Sink.held in
    record {
      ready : g.E.Keeper.ready l.keeper l.device;
      keeping : IsKeeping (g.E.Keeper.kept l.fn.keeper l.fn.device l.keeper l.device l.fn.farm)
          (record { farm = l.fn.farm; left = left l.fn.input; held = held l.fn.out })
          (record { farm = l.farm; left = left l.input; held = held l.out; reader = l.reader; pending = l.pending.items });
      read : g.S.Source.faults l.fn.input ≤ g.S.Source.faults l.input;
      write : g.K.Sink.faults l.fn.out ≤ g.K.Sink.faults l.out;
    }

abbrev pub decreases-lines : goal.decreases-lines
decreases-lines g l = budget l.reader
