use Rattle.std.proofs.Common.{◌≡◌, ◌≤◌, ◌<◌, ◌^◌, ◌*◌, min}
use Rattle.decimal_compare.proofs.size.append_zeros.Given as goal

abbrev pub invariant-loop-left : goal.invariant-loop-left
invariant-loop-left l = record {
  same : min (l.number * 10 ^ l.left) (10 ^ 25) ≡ min (l.start * 10 ^ l.count) (10 ^ 25);
  small : l.number ≤ 10 ^ 25;
  some : 0 < l.number;
}

abbrev pub decreases-loop-left : goal.decreases-loop-left
decreases-loop-left l = l.left
