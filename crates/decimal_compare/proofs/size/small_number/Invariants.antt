use Rattle.std.proofs.Common.{◌≡◌, take}
use Rattle.std.specs.List.{fold}
use Rattle.decimal_compare.specs.Digits.{with_digit}
use Rattle.decimal_compare.proofs.size.small_number.Given as goal

abbrev pub invariant-loop-b : goal.invariant-loop-b
invariant-loop-b l = l.number ≡ fold with_digit 0 (take l.b-index l.digits)
