use Rattle.std.proofs.Common.{List, ℕ, ap, length}
use Rattle.http_door.proofs.Windows.{range-drop}
use Rattle.http_door.specs.WindowValue.{WindowValue}
use Rattle.http_door.proofs.window.Window.drop_front.Goals as goal

pub returns : goal.returns
returns c =
    let w = c.self.inside in
    rw (← c.self.view_is) (ap (λ (z : List ℕ). let v : WindowValue = record { ahead = z; taken = w.taken; size = length w.bytes.items } in v) (range-drop w.bytes.items w.from w.to c.args.count))
