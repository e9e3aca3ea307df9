use Rattle.std.proofs.Common.{◌≡◌, ◌-◌, ◌≤◌}
use Rattle.farm_io.specs.Lines.{input_limit}
use Rattle.http_door.specs.WindowValue.{Fills}
use Rattle.http_door.proofs.finding.wait_for.Given as goal

abbrev pub invariant-loop-need : goal.invariant-loop-need
invariant-loop-need g l =
    let left = g.S.Source.left in
    record {
      fills : Fills (left l.fn.source) (left l.source) l.fn.window l.window;
      size : l.window.size ≡ l.fn.window.size;
      few : l.window.taken ≤ input_limit;
      same : g.S.Source.faults l.source ≡ g.S.Source.faults l.fn.source;
      beside : g.S.Source.beside l.source ≡ g.S.Source.beside l.fn.source;
    }

abbrev pub decreases-loop-need : goal.decreases-loop-need
decreases-loop-need g l = input_limit - l.window.taken
