use Rattle.std.proofs.Common.{◌≡◌, ◌-◌, ◌≤◌, ◌<◌, length}
use Rattle.farm_io.specs.Lines.{input_limit}
use Rattle.http_door.specs.Heads.{head_limit}
use Rattle.http_door.specs.Requests.{HoldsHead}
use Rattle.http_door.specs.WindowValue.{Fills}
use Rattle.http_door.proofs.finding.seek.Given as goal

abbrev pub invariant-loop-stop : goal.invariant-loop-stop
invariant-loop-stop g l =
    let left = g.S.Source.left in
    record {
      fills : Fills (left l.fn.source) (left l.source) l.fn.window l.window;
      size : l.window.size ≡ l.fn.window.size;
      few : l.window.taken ≤ input_limit;
      room : head_limit < l.window.size;
      short : length l.window.ahead < head_limit;
      lacking : ¬ HoldsHead l.window.ahead;
      same : g.S.Source.faults l.source ≡ g.S.Source.faults l.fn.source;
      beside : g.S.Source.beside l.source ≡ g.S.Source.beside l.fn.source;
    }

abbrev pub decreases-loop-stop : goal.decreases-loop-stop
decreases-loop-stop g l = input_limit - l.window.taken
