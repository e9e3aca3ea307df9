use Rattle.std.proofs.Common.{◌≡◌, ◌≤◌, ◌^◌, take}
use Rattle.std.specs.List.{fold}
use Rattle.decimal_compare.specs.Digits.{with_digit}
use Rattle.decimal_compare.proofs.size.append_each.Given as goal

abbrev pub invariant-loop-b : goal.invariant-loop-b
invariant-loop-b l = record {
  number_is : l.number ≡ fold with_digit l.start (take l.b-index l.digits);
  small : l.number ≤ 10 ^ 25;
}
