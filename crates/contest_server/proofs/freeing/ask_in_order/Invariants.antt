use Rattle.std.proofs.Common.{◌≡◌, ◌≤◌}
use Rattle.contest_server.proofs.freeing.ask_in_order.Given as goal

abbrev pub invariant-loop : goal.invariant-loop
invariant-loop g l = record {
  kept : g.D.Door.state l.door ≡ g.D.Door.state l.initial.door;
  later : g.D.Door.faults l.initial.door ≤ g.D.Door.faults l.door;
}
