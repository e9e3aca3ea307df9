use Rattle.std.proofs.Common.{length, take, ◌-◌, ◌≤◌}
use Rattle.std.specs.Io.KnownBytes.{Appends}
use Rattle.farm_io.proofs.adapters.write_whole.Given as goal

abbrev pub invariant-loop-from : goal.invariant-loop-from
invariant-loop-from g l = record {
  within : l.from ≤ length l.piece;
  put : Appends (g.W.Write.contents l.fn.writer) (g.W.Write.contents l.writer) (take l.from l.piece);
}

abbrev pub decreases-loop-from : goal.decreases-loop-from
decreases-loop-from g l = length l.piece - l.from
