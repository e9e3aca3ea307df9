use Rattle.std.proofs.Common.{◌≤◌}
use Rattle.farm_io.proofs.tcp_door.next_stream.Given as goal

abbrev pub invariant-loop : goal.invariant-loop
invariant-loop g l = l.fn.faults ≤ l.faults
